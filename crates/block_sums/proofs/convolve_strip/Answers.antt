use mathlib.Core.Path.{refl, ◌∙◌}
use Prim.Native.Nat.{◌+◌, ◌-◌, ◌*◌, ◌/◌, ◌≤◌}
use native.Mathlib.Omega.{arith}
use lib.ListN.{length}
use Rattle.picture.proofs.Spans.{within}
use Rattle.edges.specs.Edges.{Reach}
use Rattle.passes.proofs.Taps.{few_taps}
use Rattle.blocks.proofs.Progress.{made_none, made_in, made_run, made_join}
use Rattle.blocks.proofs.Places.{strip_place, strip_at}
use Rattle.block_sums.proofs.Taps.{block_reach, taps_room}
use Rattle.block_sums.proofs.Bytes.{Filled, lane_byte, lane_nonneg}
use Rattle.block_sums.proofs.convolve_strip.Goals as goal
use Rattle.block_sums.proofs.convolve_strip.Goals.{Start, After-fill, In-loop-i}

reach : (s : Start) → let a = s.args in let k = length a.weights.now in Reach a.len (a.x + (a.m + (k - 1))) (k / 2)
reach s = block_reach s.requires.fact_1 s.args.x s.args.m s.requires.fact_2.0 s.requires.fact_2.1

filled : (c : After-fill) → let a = c.args in Filled a.mode a.weights.now a.src.now a.start a.len a.stride a.from a.n a.x a.m c.fill.new.line
filled c = record { value = λ t h. c.fill.ensures.makes t (omega arith, h) }

-- the bytes and the values of a turn end within dst and the line
module _ (c : In-loop-i) where
  ends : let a = c.args in (a.x + c.loop-i.i) * a.stride + a.from + a.n ≤ length c.loop-i.dst
  ends =
      let r = c.requires in
      omega (arith, within 0 c.args.stride (c.args.x + c.loop-i.i) c.args.len (omega (arith, c.loop-i-test.true, r.fact_2.1)), r.fact_3, r.fact_5.1, c.loop-i.invariant.0)

  turn : let a = c.args in c.loop-i.i * a.n + a.n ≤ a.m * a.n
  turn = let a = c.args in omega (arith, within 0 a.n c.loop-i.i a.m c.loop-i-test.true)

  reaches : let a = c.args in c.loop-i.i * a.n + length a.weights.now * a.n + a.n ≤ length a.line.now + a.n
  reaches =
      let a = c.args in
      omega (arith, taps_room a.m (length a.weights.now) a.n (few_taps _ c.requires.fact_1.kernel.counted).0, c.requires.fact_4, turn)

pub fill-requires : goal.fill-requires
fill-requires c =
    record {
      fact_1 = (omega arith, c.requires.fact_4);
      fact_2 = c.requires.fact_5.1;
      fact_3 = c.requires.fact_1.end;
      fact_4 = reach (goal.at.fill-requires c).Start;
    }

pub loop-i-init : goal.loop-i-init
loop-i-init c = (refl, (λ mode f. made_none (λ j r. omega arith)))

pub weigh-requires : goal.weigh-requires
weigh-requires c =
    let g = goal.at.weigh-requires c in
    let k = c.requires.fact_1.kernel in
    record {
      fact_1 = ends g.In-loop-i;
      fact_2 = record {
        reaches = record {
          some = (few_taps _ k.counted).0;
          last = omega (arith, reaches g.In-loop-i, c.fill.auto.line);
        };
        nonnegative = λ i h. lane_nonneg (filled g.After-fill) k c.requires.fact_5.0 c.loop-i.i i refl (omega (arith, turn g.In-loop-i)) (λ j. omega (arith, c.type_inv.src j));
      };
    }

pub loop-i-preserved : goal.loop-i-preserved
loop-i-preserved c =
    let t = (goal.at.loop-i-preserved c).In-loop-i in
    let a = c.args in
    let i = c.loop-i.i in
    let n = c.requires.fact_5 in (
      c.weigh.auto.dst ∙ c.loop-i.invariant.0,
      (λ mode f.
          made_join (λ j. j / a.stride) (a.x + i) (c.loop-i.invariant.1 mode f)
          (made_run c.weigh.ensures
          (λ k h. lane_byte f c.requires.fact_1.kernel n.0 i k refl (omega (arith, turn t)) _ (strip_at a.stride a.x i a.from a.n n.1 k h)))
          (λ j r u. omega arith)
          (λ j r u. strip_place a.stride a.x i a.from a.n n.1 j (omega arith) r.2 r.3)),
    )

pub returns : goal.returns
returns c = made_in (c.loop-i.invariant.1 c.args.mode (filled (goal.at.returns c).After-fill)) (λ j r. omega arith)

pub overflow_sub-more : goal.overflow_sub-more
overflow_sub-more c = omega (arith, few_taps _ c.requires.fact_1.kernel.counted)

pub overflow_add-m : goal.overflow_add-m
overflow_add-m c = omega (arith, (reach (goal.at.overflow_add-m c).Start).c_high)

pub overflow_add-x : goal.overflow_add-x
overflow_add-x c = omega (arith, c.loop-i-test.true, (reach (goal.at.overflow_add-x c).Start).c_high)

pub overflow_mul-x : goal.overflow_mul-x
overflow_mul-x c = omega (arith, ends (goal.at.overflow_mul-x c).In-loop-i)

pub overflow_add-x-in-loop-i : goal.overflow_add-x-in-loop-i
overflow_add-x-in-loop-i c = omega (arith, ends (goal.at.overflow_add-x-in-loop-i c).In-loop-i)

pub overflow_mul-i : goal.overflow_mul-i
overflow_mul-i c = omega (arith, reaches (goal.at.overflow_mul-i c).In-loop-i)

pub shape_of-line : goal.shape_of-line
shape_of-line c = c.fill.auto.line

pub shape_of-dst : goal.shape_of-dst
shape_of-dst c = c.loop-i.invariant.0
