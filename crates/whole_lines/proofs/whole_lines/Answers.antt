use mathlib.Core.Path.{sym, ◌∙◌}
use Prim.Native.Nat.{ℕ, ◌+◌, ◌*◌, ◌≤◌, ◌<◌, ◌^◌}
use native.Mathlib.Omega.{arith}
use lib.ListN.{length, length-replicate}
use Rattle.picture.proofs.Spans.{within}
use Rattle.passes.proofs.Written.{lined_none, line_ends, lined_more, lined_all}
use Rattle.whole_lines.specs.Lines.{sum_lanes}
use Rattle.whole_lines.proofs.whole_lines.Goals as goal
use Rattle.whole_lines.proofs.whole_lines.Goals.{In-loop-y}

pub overflow_mul-size : goal.overflow_mul-size
overflow_mul-size c =
    omega (arith, within 0 (c.args.len * c.args.stride) 0 c.args.lines c.requires.lined.some, c.requires.lined.src_size, c.well_formed.0.0)

-- the line of a turn ends within src and within dst
ends : (c : In-loop-y) →
    let a = c.args in
    let end = c.loop-y.y * (a.len * a.stride) + a.len * a.stride in
    (end ≤ length c.loop-y.dst) × (end ≤ length a.src.now) × (length a.src.now < 2 ^ 64)
ends c =
    let e = line_ends c.loop-y.invariant.1 c.args.lines c.requires.lined.dst_size c.loop-y-test.true in
    (e, omega (arith, c.loop-y.invariant.1.made.size, c.requires.lined.src_size, c.requires.lined.dst_size), c.well_formed.0.0)

pub whole_line-requires : goal.whole_line-requires
whole_line-requires c =
    let p = c.requires in
    let e = ends (goal.at.whole_line-requires c).In-loop-y in
    record {
      fact_1 = omega (arith, c.loop-y.invariant.0);
      fact_2 = p.lined.stride_low;
      fact_3 = record { len_low = p.lined.len_low; len_high = p.lined.len_high; src_ends = e.1; dst_ends = e.0 };
      fact_4 = p.kernel;
    }

pub loop-y-preserved : goal.loop-y-preserved
loop-y-preserved c =
    (c.whole_line.auto.acc ∙ c.loop-y.invariant.0, lined_more c.loop-y.invariant.1 c.whole_line.ensures)

pub returns : goal.returns
returns c = lined_all c.loop-y.invariant.1 c.args.lines c.requires.lined.dst_size (omega arith)

pub loop-y-init : goal.loop-y-init
loop-y-init c = (length-replicate {A = ℕ} sum_lanes 0, lined_none)

pub overflow_mul-o : goal.overflow_mul-o
overflow_mul-o c =
    let l = c.requires.lined in
    omega (arith, line_ends c.loop-y.invariant.1 c.args.lines l.dst_size c.loop-y-test.true, c.loop-y.invariant.1.made.size, l.src_size, l.dst_size, c.well_formed.0.0)

pub slice_bounds-whole_line-end : goal.slice_bounds-whole_line-end
slice_bounds-whole_line-end c = sym c.loop-y.invariant.0

pub shape_of-dst : goal.shape_of-dst
shape_of-dst c = c.loop-y.invariant.1.made.size
