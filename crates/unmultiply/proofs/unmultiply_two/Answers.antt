-- What is left of the second channel's sum is whole, and the base of the first's, whose bits tell both.
use mathlib.Core.Path.{◌≡◌, refl, sym, subst}
use mathlib.Core.Bool.{false}
use Prim.Native.Nat.{ℕ, ◌+◌, ◌-◌, ◌*◌, ◌^◌, ◌<◌}
use native.Mathlib.Nat.{mul-one}
use native.Mathlib.Omega.{arith}
use lib.Ieee.{binary32, sub, of_bits, to_bits}
use lib.Ieee.Exact.{HasValue}
use Rattle.binary32.proofs.Values.{whole_less}
use Rattle.binary32.proofs.Sums.{whole_told, whole_bits}
use Rattle.unmultiply.specs.Outward.{outward}
use Rattle.unmultiply.proofs.Outward.{outward_byte}
use Rattle.unmultiply.proofs.unmultiply_two.Goals as goal
use Rattle.unmultiply.proofs.unmultiply_two.Goals.{After-added}

-- the two channels
module _ (c : After-added) where
  abbrev first : ℕ
  first = outward c.args.low c.args.a

  abbrev second : ℕ
  second = outward c.args.high c.args.a

  bytes : (first < 256) × (second < 256)
  bytes = (outward_byte _ _ c.requires.fact_1, outward_byte _ _ c.requires.fact_2)

  upper : HasValue c.added-base.result false ((second + 8388608) * 2 ^ 8) 1
  unfolding of_bits
  upper = c.added-base.ensures 8 c.args.high 8388608 (omega arith) refl c.requires.fact_2 (refl, refl) (omega arith) (omega arith)

  base : HasValue (sub binary32 c.added-base.result (of_bits binary32 1325334528)) false ((256 * second + 8388608) * 2 ^ 0) 1
  unfolding of_bits
  base =
      let left : (second + 8388608) * 2 ^ 8 - 2139095040 ≡ (256 * second + 8388608) * 2 ^ 0 = omega arith in
      subst (λ (n : ℕ). HasValue (sub binary32 c.added-base.result (of_bits binary32 1325334528)) false n 1) left
      (whole_less c.added-base.result (of_bits binary32 1325334528) ((second + 8388608) * 2 ^ 8) 2139095040 upper (refl, refl) (omega arith) (omega (arith, bytes)))

  value : HasValue c.added.result false ((first + (256 * second + 8388608)) * 2 ^ 0) 1
  value = c.added.ensures 0 c.args.low (256 * second + 8388608) (omega arith) (sym (mul-one c.args.low)) c.requires.fact_1 base (omega arith) (omega (arith, bytes))

  bits : to_bits binary32 c.added.result ≡ 1258291200 + (first + 256 * second)
  bits = omega (arith, bytes, whole_bits 0 c.added.result _ value (omega arith) (omega (arith, bytes)))

pub float_to_bits-result : goal.float_to_bits-result
float_to_bits-result c = whole_told 0 c.added.result _ (value (goal.at.float_to_bits-result c).After-added)

pub overflow_sub-result : goal.overflow_sub-result
overflow_sub-result c = omega (arith, bits (goal.at.overflow_sub-result c).After-added)

pub returns : goal.returns
returns c = omega (arith, bits (goal.at.returns c).After-added)
