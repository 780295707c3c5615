use mathlib.Core.Path.{refl}
use Prim.Native.Nat.{◌≤◌}
use native.Mathlib.Omega.{arith}
use lib.ListN.{get_or}
use Rattle.picture.proofs.Spans.{span_none, span_more, span_ends}
use Rattle.grid_sums.specs.Room.{most_sum}
use Rattle.grid_sums.proofs.round_sums.Goals as goal
use Rattle.grid_sums.proofs.round_sums.Goals.{In-loop-i}

-- the sum of a turn has room, and rounds to a byte
small : (c : In-loop-i) → get_or c.args.acc.now c.loop-i.i 0 ≤ most_sum
small c = c.requires.fact_3 c.loop-i.i c.loop-i-test.true

pub overflow_add-dst : goal.overflow_add-dst
overflow_add-dst c = omega (arith, small (goal.at.overflow_add-dst c).In-loop-i)

pub overflow_cast-dst : goal.overflow_cast-dst
overflow_cast-dst c = omega (arith, small (goal.at.overflow_cast-dst c).In-loop-i)

pub loop-i-preserved : goal.loop-i-preserved
loop-i-preserved c = span_more c.loop-i.invariant (omega arith) (omega arith) refl refl

pub loop-i-init : goal.loop-i-init
loop-i-init c = span_none (omega arith)

pub shape_of-dst : goal.shape_of-dst
shape_of-dst c = c.loop-i.invariant.size

pub returns : goal.returns
returns c = span_ends c.loop-i.invariant refl (omega arith)
