use mathlib.Core.Path.{refl, ap, ◌∙◌}
use mathlib.Core.List.{List}
use Prim.Native.Nat.{ℕ, ◌+◌, ◌*◌, ◌≤◌, ◌<◌, ◌^◌}
use native.Mathlib.Nat.{add-mul, div-le_self}
use native.Mathlib.Omega.{arith}
use lib.ListN.{length, get_or}
use Rattle.picture.proofs.Spans.{scale, within}
use Rattle.passes.proofs.Lent.{length_lent, lent_at, run_back, lines_more}
use Rattle.passes.proofs.Written.{lined_none, lined_all}
use Rattle.grid_sums.proofs.Local.{whole_local}
use Rattle.whole_lines.proofs.whole_bands.Goals as goal
use Rattle.whole_lines.proofs.whole_bands.Goals.{After-min-rows}

pub overflow_mul-size : goal.overflow_mul-size
overflow_mul-size c =
    omega (arith, within 0 (c.args.w * 4) 0 c.args.h c.requires.lined.some, c.requires.lined.src_size, c.well_formed.0.0)

-- the band of a turn has a row at least, and ends within both buffers
room : (c : After-min-rows) →
    let a = c.args in
    let y = c.loop-y.y in
    let rows = c.min-rows.result in
    let end = y * (a.w * 4) + rows * (a.w * 4) in
    (0 < rows) × (y + rows ≤ a.h) × (end ≤ length c.loop-y.picture) × (end ≤ length c.loop-y.scratch) × (length a.picture.now < 2 ^ 64)
room c =
    let w = c.args.w in
    let y = c.loop-y.y in
    let rows = c.min-rows.result in
    let inside : y + rows ≤ c.args.h = omega (arith, c.min-rows.ensures, c.loop-y-test.true) in
    let end : y * (w * 4) + rows * (w * 4) ≤ c.args.h * (w * 4) = omega (arith, scale 0 (w * 4) (y + rows) c.args.h inside, add-mul y rows (w * 4)) in (
      omega (arith, c.min-rows.ensures, c.loop-y-test.true),
      inside,
      omega (arith, end, c.loop-y.invariant.1, c.requires.lined.src_size),
      omega (arith, end, c.loop-y.invariant.3.made.size, c.requires.lined.dst_size),
      c.well_formed.0.0,
    )

pub whole_turned-requires : goal.whole_turned-requires
whole_turned-requires c =
    let p = c.requires in
    let r = room (goal.at.whole_turned-requires c).After-min-rows in
    let size = c.args.w * 4 in
    let o = c.loop-y.y * size in
    let n = c.min-rows.result * size in
    record {
      kernel = p.kernel;
      lined = record {
        some = r.0;
        len_low = p.lined.len_low;
        len_high = p.lined.len_high;
        stride_low = p.lined.stride_low;
        src_size = length_lent c.loop-y.picture o n r.2;
        dst_size = length_lent c.loop-y.scratch o n r.3;
      };
    }

pub loop-y-preserved : goal.loop-y-preserved
loop-y-preserved c =
    let a = c.args in
    let p = c.requires.lined in
    let i = c.loop-y.invariant in
    let r = room (goal.at.loop-y-preserved c).After-min-rows in
    let size = a.w * 4 in
    let y = c.loop-y.y in
    let rows = c.min-rows.result in
    let o = y * size in
    let n = rows * size in
    let last = c.whole_turned.new in
    let kept = c.whole_turned.auto in
    let spoiled = run_back c.loop-y.picture last.picture o n (λ k. get_or last.picture k 0) r.2 kept.picture (λ k h. refl) in
    let made = run_back c.loop-y.scratch last.scratch o n _ r.3 kept.scratch (λ k h. ap (λ (m : List ℕ). get_or m k 0) c.whole_turned.ensures) in (
      r.1,
      spoiled.size ∙ i.1,
      (λ j h. spoiled.above j (omega (arith, add-mul y rows size)) ∙ i.2 j (omega (arith, add-mul y rows size))),
      lines_more (whole_local a.mode a.numerators.now) a.picture.now _ p.len_low p.len_low p.stride_low y rows
          (λ j h. lent_at c.loop-y.picture o n j h ∙ i.2 (o + j) (omega arith))
          i.3 made,
    )

pub returns : goal.returns
returns c = lined_all c.loop-y.invariant.3 c.args.h c.requires.lined.dst_size (omega arith)

pub nonzero_div-most : goal.nonzero_div-most
nonzero_div-most c = c.requires.lined.len_low

pub overflow_add-most : goal.overflow_add-most
overflow_add-most c = omega (arith, div-le_self 8192 c.args.w)

pub loop-y-init : goal.loop-y-init
loop-y-init c = (omega arith, refl, (λ j l. refl), lined_none)

pub overflow_mul-start : goal.overflow_mul-start
overflow_mul-start c = omega (arith, room (goal.at.overflow_mul-start c).After-min-rows)

pub overflow_mul-n : goal.overflow_mul-n
overflow_mul-n c = omega (arith, room (goal.at.overflow_mul-n c).After-min-rows)

pub overflow_add-start : goal.overflow_add-start
overflow_add-start c = omega (arith, room (goal.at.overflow_add-start c).After-min-rows)

pub slice_bounds-whole_turned-end : goal.slice_bounds-whole_turned-end
slice_bounds-whole_turned-end c = omega (arith, room (goal.at.slice_bounds-whole_turned-end c).After-min-rows)

pub overflow_add-start-in-loop-y : goal.overflow_add-start-in-loop-y
overflow_add-start-in-loop-y c = omega (arith, room (goal.at.overflow_add-start-in-loop-y c).After-min-rows)

pub slice_bounds-whole_turned-end-in-loop-y : goal.slice_bounds-whole_turned-end-in-loop-y
slice_bounds-whole_turned-end-in-loop-y c = omega (arith, room (goal.at.slice_bounds-whole_turned-end-in-loop-y c).After-min-rows)
