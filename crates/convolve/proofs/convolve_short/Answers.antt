use mathlib.Core.Path.{◌∙◌}
use Prim.Native.Nat.{◌+◌, ◌*◌, ◌≤◌}
use native.Mathlib.Nat.{div-lt_iff_lt-mul}
use native.Mathlib.Omega.{arith}
use lib.Ieee.{binary32, of_bits}
use lib.ListN.{length, length-take, length-drop, length-replicate}
use Rattle.passes.proofs.Written.{lined_none, line_ends, lined_all}
use Rattle.passes.proofs.Lent.{line_more}
use Rattle.convolve.proofs.Room.{short_room}
use Rattle.convolve.proofs.convolve_short.Goals as goal
use Rattle.convolve.proofs.convolve_short.Goals.{In-loop-y}

pub loop-y-init : goal.loop-y-init
loop-y-init c = let zero = of_bits binary32 0 in (length-replicate 1280 zero, lined_none)

-- the bytes of a turn end within dst
ends : (c : In-loop-y) →
    let a = c.args in c.loop-y.y * (a.len * a.stride) + a.len * a.stride ≤ length c.loop-y.dst
ends c =
    line_ends c.loop-y.invariant.1 c.args.lines c.requires.fact_1.lined.dst_size c.loop-y-test.true

pub overflow_add-start : goal.overflow_add-start
overflow_add-start c = omega (arith, ends (goal.at.overflow_add-start c).In-loop-y)

pub convolve_whole-requires : goal.convolve_whole-requires
convolve_whole-requires c =
    let p = c.requires.fact_1 in
    let i = c.loop-y.invariant in
    let e = ends (goal.at.convolve_whole-requires c).In-loop-y in
    record {
      fact_1 = record { kernel = p.kernel; len_high = p.lined.len_high; stride_low = p.lined.stride_low; end = omega (arith, i.1.made.size, p.lined.src_size, p.lined.dst_size) };
      fact_2 = (p.lined.len_low, omega arith);
      fact_3 = simp (length-take, length-drop) (omega arith);
      fact_4 = short_room c.args.stride i.0 c.requires.fact_2;
    }

pub loop-y-preserved : goal.loop-y-preserved
loop-y-preserved c =
    let i = c.loop-y.invariant in
    let k = c.convolve_whole.auto in (
      k.line ∙ i.0,
      line_more i.1 c.args.lines c.requires.fact_1.lined.dst_size c.loop-y-test.true c.convolve_whole.new.dst k.dst
          (λ j h. c.convolve_whole.ensures.makes j (omega arith, omega (arith, (div-lt_iff_lt-mul c.requires.fact_1.lined.stride_low).1 h))),
    )

pub returns : goal.returns
returns c = lined_all c.loop-y.invariant.1 c.args.lines c.requires.fact_1.lined.dst_size (omega arith)

pub overflow_mul-size : goal.overflow_mul-size
overflow_mul-size c = omega (arith, line_ends c.loop-y.invariant.1 c.args.lines c.requires.fact_1.lined.dst_size c.loop-y-test.true)

pub overflow_mul-start : goal.overflow_mul-start
overflow_mul-start c = omega (arith, line_ends c.loop-y.invariant.1 c.args.lines c.requires.fact_1.lined.dst_size c.loop-y-test.true)

pub slice_bounds-convolve_whole-end-in-loop-y : goal.slice_bounds-convolve_whole-end-in-loop-y
slice_bounds-convolve_whole-end-in-loop-y c = omega (arith, ends (goal.at.slice_bounds-convolve_whole-end-in-loop-y c).In-loop-y)

pub shape_of-dst : goal.shape_of-dst
shape_of-dst c = c.loop-y.invariant.1.made.size
