-- As many words and factors as the rest has.
use mathlib.Core.Path.{sym}
use Prim.Native.Nat.{◌/◌}
use native.Mathlib.Omega.{arith}
use lib.ListN.{length}
use lib.Seq.{length-take-le}
use Rattle.pam_convert.proofs.bodies.convert_rest.Goals as goal

pub convert_block-requires : goal.convert_block-requires
convert_block-requires g c =
    let n = length c.args.to.now in
    let w = length-take-le (n / 4) c.args.words.now (omega arith) in
    let f = length-take-le n c.args.factors.now (omega arith) in
    record { fact_1 = omega arith; fact_2 = omega arith; fact_3 = omega arith; fact_4 = c.requires.fact_4 }

pub slice_bounds-convert_block-end-2 : goal.slice_bounds-convert_block-end-2
slice_bounds-convert_block-end-2 g c = sym (length-take-le (length c.args.to.now / 4) c.args.words.now (omega arith))

pub slice_bounds-convert_block-end-4 : goal.slice_bounds-convert_block-end-4
slice_bounds-convert_block-end-4 g c = sym (length-take-le (length c.args.to.now) c.args.factors.now (omega arith))
