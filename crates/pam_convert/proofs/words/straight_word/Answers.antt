-- Each channel is divided by the alpha, and so a byte.
use mathlib.Core.Path.{◌≡◌}
use Prim.Native.Nat.{ℕ, ◌+◌, ◌*◌, ◌/◌, ◌%◌, ◌<◌}
use native.Mathlib.Omega.{arith}
use borrow.Author.Rules.{rules}
use Rattle.grading.proofs.Scanned.{below_alpha}
use Rattle.counting.specs.Words.{unpacked}
use Rattle.unmultiply.specs.Outward.{outward}
use Rattle.unmultiply.proofs.Outward.{outward_byte}
use Rattle.pam_convert.specs.Straight.{new_word}
use Rattle.pam_convert.proofs.words.straight_word.Goals as goal
use Rattle.pam_convert.proofs.words.straight_word.Goals.{After-unmultiply-blue}

-- no channel exceeds the alpha
pub unmultiply_two-red_green-requires : goal.unmultiply_two-red_green-requires
unmultiply_two-red_green-requires c =
    let low = below_alpha (unpacked c.args.word) c.requires in
    record { fact_1 = omega arith; fact_2 = omega arith; fact_3 = omega arith }

pub unmultiply-blue-requires : goal.unmultiply-blue-requires
unmultiply-blue-requires c = record { fact_1 = (below_alpha (unpacked c.args.word) c.requires).2; fact_2 = omega arith }

-- the three channels
module _ (c : After-unmultiply-blue) where
  abbrev word : ℕ
  word = c.args.word

  red_green : c.unmultiply_two-red_green.result ≡ outward (word % 256) (word / 16777216 % 256) + 256 * outward (word / 256 % 256) (word / 16777216 % 256)
  red_green = c.unmultiply_two-red_green.ensures

  blue : c.unmultiply-blue.result ≡ outward (word / 65536 % 256) (word / 16777216 % 256)
  blue = c.unmultiply-blue.ensures

  bytes : (c.unmultiply_two-red_green.result < 65536) × (c.unmultiply-blue.result < 256)
  bytes =
      let low = below_alpha (unpacked word) c.requires in
      (omega (arith, red_green, outward_byte _ _ low.0, outward_byte _ _ low.1), rw blue (outward_byte _ _ low.2))

pub overflow_mul-result : goal.overflow_mul-result
overflow_mul-result c = let b = bytes (goal.at.overflow_mul-result c).After-unmultiply-blue in search rules

pub overflow_add-result : goal.overflow_add-result
overflow_add-result c = let b = bytes (goal.at.overflow_add-result c).After-unmultiply-blue in search rules

pub overflow_add-result-2 : goal.overflow_add-result-2
overflow_add-result-2 c = let b = bytes (goal.at.overflow_add-result-2 c).After-unmultiply-blue in search rules

pub returns : goal.returns
unfolding new_word
returns c = let at = (goal.at.returns c).After-unmultiply-blue in omega (arith, red_green at, blue at)
