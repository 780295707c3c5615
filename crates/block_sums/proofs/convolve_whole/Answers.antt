-- The block is filled, and the sums of all its lanes are rounded in one run.
use mathlib.Core.Path.{sym}
use Prim.Native.Nat.{◌+◌, ◌-◌, ◌*◌, ◌/◌, ◌≤◌}
use native.Mathlib.Nat.{add-mul, mul-le-mul_right, zero-mul}
use native.Mathlib.Omega.{arith}
use lib.ListN.{length}
use Rattle.edges.specs.Edges.{Reach}
use Rattle.passes.proofs.Taps.{few_taps}
use Rattle.blocks.proofs.Progress.{made_in, made_run}
use Rattle.blocks.proofs.Places.{whole_place, whole_at}
use Rattle.block_sums.proofs.Taps.{block_reach, taps_room}
use Rattle.block_sums.proofs.Bytes.{Filled, lane_byte, lane_nonneg}
use Rattle.block_sums.proofs.convolve_whole.Goals as goal
use Rattle.block_sums.proofs.convolve_whole.Goals.{Start, After-fill_whole}

module _ (s : Start) where
  reach : let a = s.args in let k = length a.weights.now in Reach a.len (a.x + (a.m + (k - 1))) (k / 2)
  reach = block_reach s.requires.fact_1 s.args.x s.args.m s.requires.fact_2.0 s.requires.fact_2.1

  -- the block's bytes end within dst
  ends : let a = s.args in a.x * a.stride + a.m * a.stride ≤ length a.dst.now
  ends =
      let a = s.args in
      omega (arith, add-mul a.x a.m a.stride, mul-le-mul_right a.stride s.requires.fact_2.1, s.requires.fact_3)

filled : (c : After-fill_whole) → let a = c.args in Filled a.mode a.weights.now a.src.now a.start a.len a.stride 0 a.stride a.x a.m c.fill_whole.new.line
filled c = record { value = c.fill_whole.ensures.makes }

pub fill_whole-requires : goal.fill_whole-requires
fill_whole-requires c =
    let few = few_taps _ c.requires.fact_1.kernel.counted in
    record {
      fact_1 = (omega (arith, c.requires.fact_2), omega (arith, c.requires.fact_2), c.requires.fact_1.stride_low);
      fact_2 = c.requires.fact_4;
      fact_3 = c.requires.fact_1.end;
      fact_4 = reach (goal.at.fill_whole-requires c).Start;
    }

pub weigh-requires : goal.weigh-requires
weigh-requires c =
    let g = goal.at.weigh-requires c in
    let a = c.args in
    let k = c.requires.fact_1.kernel in
    record {
      fact_1 = ends g.Start;
      fact_2 = record {
        reaches = record {
          some = (few_taps _ k.counted).0;
          last = omega (arith, taps_room a.m (length a.weights.now) a.stride (few_taps _ k.counted).0, c.requires.fact_4, c.fill_whole.auto.line);
        };
        nonnegative = λ i h.
            lane_nonneg (filled g.After-fill_whole) k c.requires.fact_1.stride_low 0 i (sym (zero-mul a.stride)) (omega (arith, zero-mul a.stride)) (λ j. omega (arith, c.type_inv.src j));
      };
    }

pub returns : goal.returns
returns c =
    let a = c.args in
    let z = c.requires.fact_1.stride_low in
    made_in
    (made_run c.weigh.ensures
    (λ k h.
    lane_byte (filled (goal.at.returns c).After-fill_whole) c.requires.fact_1.kernel z 0 k (sym (zero-mul a.stride)) (omega (arith, zero-mul a.stride)) _ (whole_at a.stride a.x a.m z k)))
    (λ j r. whole_place a.stride a.x a.m z j r.0 r.1)

pub overflow_sub-more : goal.overflow_sub-more
overflow_sub-more c = omega (arith, few_taps _ c.requires.fact_1.kernel.counted)

pub overflow_add-m : goal.overflow_add-m
overflow_add-m c = omega (arith, (reach (goal.at.overflow_add-m c).Start).c_high)

pub overflow_mul-x : goal.overflow_mul-x
overflow_mul-x c = omega (arith, ends (goal.at.overflow_mul-x c).Start)
