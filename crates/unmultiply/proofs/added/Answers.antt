-- The product is near to the channel divided, and so its sum with the base is whole units.
use native.Mathlib.Omega.{arith}
use lib.Dec.{le→leb}
use lib.Ieee.{of_bits, in_float}
use Rattle.binary32.proofs.Sums.{near_sum}
use Rattle.unmultiply.specs.Outward.{outward}
use Rattle.unmultiply.proofs.Outward.{outward_byte}
use Rattle.unmultiply.proofs.Scales.{scale}
use Rattle.unmultiply.proofs.Near.{divided}
use Rattle.unmultiply.proofs.added.Goals as goal

pub int_to_float-scale : goal.int_to_float-scale
unfolding in_float
int_to_float-scale c = le→leb c.args.a 16777216 (omega arith)

pub int_to_float-result : goal.int_to_float-result
unfolding in_float
int_to_float-result c = le→leb c.args.c 16777216 (omega arith)

pub returns : goal.returns
unfolding of_bits scale
returns c =
    λ j k m place e low v least most.
    let a = c.args.a in
    let byte = outward_byte k a low in
    rw e (near_sum j _ c.args.base (outward k a) m (divided j k a place low c.requires.fact_2) v (omega arith) least (omega arith))
