-- Each channel is a byte of the word.
use Rattle.counting.proofs.words.unpack.Goals as goal

pub returns : goal.returns
returns c = rw c.to_le_bytes.ensures
