-- The sum's bits are those of its base and the channel divided.
use mathlib.Core.Path.{◌≡◌, refl}
use mathlib.Core.Bool.{false}
use Prim.Native.Nat.{◌+◌, ◌*◌, ◌^◌}
use native.Mathlib.Omega.{arith}
use lib.Ieee.{binary32, of_bits, to_bits}
use lib.Ieee.Exact.{HasValue}
use Rattle.binary32.proofs.Sums.{whole_told, whole_bits}
use Rattle.unmultiply.specs.Outward.{outward}
use Rattle.unmultiply.proofs.Outward.{outward_byte}
use Rattle.unmultiply.proofs.unmultiply.Goals as goal
use Rattle.unmultiply.proofs.unmultiply.Goals.{After-added}

module _ (c : After-added) where
  value : HasValue c.added.result false ((outward c.args.c c.args.a + 8434944) * 2 ^ 16) 1
  unfolding of_bits
  value = c.added.ensures 16 c.args.c 8434944 (omega arith) refl c.requires.fact_1 (refl, refl) (omega arith) (omega arith)

  bits : to_bits binary32 c.added.result ≡ 1392555264 + outward c.args.c c.args.a
  bits =
      let byte = outward_byte c.args.c c.args.a c.requires.fact_1 in
      omega (arith, whole_bits 16 c.added.result _ value (omega arith) (omega arith))

pub float_to_bits-result : goal.float_to_bits-result
float_to_bits-result c = whole_told 16 c.added.result _ (value c)

pub overflow_sub-result : goal.overflow_sub-result
overflow_sub-result c = omega (arith, bits c)

pub returns : goal.returns
returns c = omega (arith, bits c)
