-- The rest of a division by 2^16 fits 16 bits.
use borrow.Author.Rules.{rules}
use Rattle.vector_values.proofs.values.half.Goals as goal

pub returns : goal.returns
returns c = search rules
