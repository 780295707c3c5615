-- The alpha for each channel, and 255.
use mathlib.Core.Path.{refl}
use Rattle.pam_convert.specs.Straight.{new_word}
use Rattle.pam_convert.proofs.words.factor_word.Goals as goal

pub returns : goal.returns
unfolding new_word
returns c = refl
