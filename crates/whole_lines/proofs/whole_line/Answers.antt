use mathlib.Core.Path.{refl, ◌∙◌}
use Prim.Native.Nat.{◌+◌, ◌*◌, ◌≤◌, ◌<◌, ◌^◌}
use native.Mathlib.Omega.{arith}
use Rattle.picture.proofs.Spans.{span_none, span_ends}
use Rattle.grid_sums.specs.Sums.{whole_convolve}
use Rattle.whole_lines.proofs.Runs.{run_more}
use Rattle.whole_lines.proofs.whole_line.Goals as goal
use Rattle.whole_lines.proofs.whole_line.Goals.{Start, After-run_at-run}

-- the line has room in src, whose length fits
fits : (s : Start) → s.args.len * s.args.stride < 2 ^ 64
fits s = omega (arith, s.requires.fact_3.src_ends, s.well_formed.1.0.0)

pub overflow_mul-size : goal.overflow_mul-size
overflow_mul-size c = omega (arith, fits (goal.at.overflow_mul-size c).Start)

pub run_at-run-requires : goal.run_at-run-requires
run_at-run-requires c =
    record { fact_1 = c.requires.fact_4.counted; fact_2 = (c.requires.fact_2, c.requires.fact_3.len_high, c.loop-p-test.true); fact_3 = fits (goal.at.run_at-run-requires c).Start }

pub overflow_add-o : goal.overflow_add-o
overflow_add-o c =
    omega (arith, c.loop-p-test.true, c.requires.fact_3.dst_ends, c.well_formed.1.1.1.0.0)

pub weigh-requires : goal.weigh-requires
weigh-requires c =
    let r = c.run_at-run.ensures in
    let m = c.requires.fact_3 in
    record {
      fact_1 = omega (arith, c.loop-p.invariant.2.size, m.dst_ends, r.ends);
      fact_2 = omega (arith, c.loop-p.invariant.1, c.requires.fact_1, r.few);
      fact_3 = c.requires.fact_4;
      fact_4 = record { stride_low = c.requires.fact_2; len_high = m.len_high; x_high = r.x_high; end = m.src_ends; tap = r.tap };
    }

-- what a turn makes is some lanes, and ends with the line at the latest
turn : (c : After-run_at-run) →
    (0 < c.run_at-run.result.n) × (c.loop-p.p + c.run_at-run.result.n ≤ c.args.len * c.args.stride) × (c.args.len * c.args.stride < 2 ^ 64)
turn c =
    (c.run_at-run.ensures.some, c.run_at-run.ensures.ends, omega (arith, c.requires.fact_3.src_ends, c.well_formed.1.0.0))

pub loop-p-preserved : goal.loop-p-preserved
loop-p-preserved c =
    let r = c.run_at-run.ensures in
    let a = c.args in (
      r.ends,
      c.weigh.auto.acc ∙ c.loop-p.invariant.1,
      run_more (whole_convolve a.mode a.numerators.now) a.src.now a.start a.len a.stride c.run_at-run.result.x c.run_at-run.result.from c.requires.fact_2 r.at c.loop-p.invariant.2 c.weigh.ensures,
    )

pub returns : goal.returns
returns c = span_ends c.loop-p.invariant.2 refl (omega arith)

pub loop-p-init : goal.loop-p-init
loop-p-init c = (omega arith, refl, span_none (omega arith))

pub overflow_add-p : goal.overflow_add-p
overflow_add-p c = omega (arith, turn (goal.at.overflow_add-p c).After-run_at-run)

pub loop-p-smaller : goal.loop-p-smaller
loop-p-smaller c = omega (arith, turn (goal.at.loop-p-smaller c).After-run_at-run)

pub shape_of-acc : goal.shape_of-acc
shape_of-acc c = c.loop-p.invariant.1

pub shape_of-dst : goal.shape_of-dst
shape_of-dst c = c.loop-p.invariant.2.size
