use mathlib.Core.Path.{refl}
use Prim.Native.Nat.{◌+◌}
use native.Mathlib.Omega.{arith}
use Rattle.picture.proofs.Placed.{run_placed}
use Rattle.picture.proofs.Spans.{span_none, span_more, span_ends}
use Rattle.picture.proofs.buffers.copy_back.Goals as goal

pub loop-i-init : goal.loop-i-init
loop-i-init c = span_none (omega arith)

pub loop-i-preserved : goal.loop-i-preserved
loop-i-preserved c =
    span_more c.loop-i.invariant (omega arith) (omega arith) refl (c.loop-i.invariant.above (c.args.from + c.loop-i.i) (omega arith))

pub returns : goal.returns
returns c = let a = c.args in run_placed a.n a.to _ a.bytes.now (span_ends c.loop-i.invariant refl (omega arith))
