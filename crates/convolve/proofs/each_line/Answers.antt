use mathlib.Core.Path.{refl, ◌∙◌}
use Prim.Native.Nat.{◌+◌, ◌*◌, ◌≤◌}
use native.Mathlib.Omega.{arith}
use lib.ListN.{length, length-take, length-drop}
use Rattle.passes.proofs.Written.{lined_none, line_ends, lined_all}
use Rattle.passes.proofs.Lent.{line_more}
use Rattle.convolve.proofs.Room.{room_still}
use Rattle.convolve.proofs.each_line.Goals as goal
use Rattle.convolve.proofs.each_line.Goals.{In-loop-y}

pub loop-y-init : goal.loop-y-init
loop-y-init c = (refl, lined_none)

-- the bytes of a turn end within dst
ends : (c : In-loop-y) →
    let a = c.args in c.loop-y.y * (a.len * a.stride) + a.len * a.stride ≤ length c.loop-y.dst
ends c =
    line_ends c.loop-y.invariant.1 c.args.lines c.requires.fact_1.lined.dst_size c.loop-y-test.true

pub overflow_add-o : goal.overflow_add-o
overflow_add-o c = omega (arith, ends (goal.at.overflow_add-o c).In-loop-y)

pub convolve_line-requires : goal.convolve_line-requires
convolve_line-requires c =
    let p = c.requires.fact_1 in
    let b = c.requires.fact_2 in
    let i = c.loop-y.invariant in
    let e = ends (goal.at.convolve_line-requires c).In-loop-y in
    record {
      fact_1 = record { kernel = p.kernel; len_high = p.lined.len_high; stride_low = p.lined.stride_low; end = omega (arith, i.1.made.size, p.lined.src_size, p.lined.dst_size) };
      fact_2 = simp (length-take, length-drop) (omega arith);
      fact_3 = room_still b i.0 b.some (omega arith);
    }

pub loop-y-preserved : goal.loop-y-preserved
loop-y-preserved c =
    let i = c.loop-y.invariant in
    let k = c.convolve_line.auto in
    (k.line ∙ i.0, line_more i.1 c.args.lines c.requires.fact_1.lined.dst_size c.loop-y-test.true c.convolve_line.new.dst k.dst c.convolve_line.ensures)

pub returns : goal.returns
returns c = lined_all c.loop-y.invariant.1 c.args.lines c.requires.fact_1.lined.dst_size (omega arith)

pub overflow_mul-size : goal.overflow_mul-size
overflow_mul-size c = omega (arith, ends c)

pub overflow_mul-o : goal.overflow_mul-o
overflow_mul-o c = omega (arith, ends c)

pub slice_bounds-convolve_line-end : goal.slice_bounds-convolve_line-end
slice_bounds-convolve_line-end c = omega (arith, ends (goal.at.slice_bounds-convolve_line-end c).In-loop-y)

pub shape_of-line : goal.shape_of-line
shape_of-line c = c.loop-y.invariant.0

pub shape_of-dst : goal.shape_of-dst
shape_of-dst c = c.loop-y.invariant.1.made.size
