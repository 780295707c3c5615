use mathlib.Core.Path.{refl}
use Prim.Native.Nat.{◌+◌, ◌-◌}
use native.Mathlib.Omega.{arith}
use Rattle.picture.proofs.Placed.{run_placed}
use Rattle.picture.proofs.Spans.{span_none, span_less, span_ends}
use Rattle.picture.proofs.buffers.copy_forward.Goals as goal

pub loop-k-init : goal.loop-k-init
loop-k-init c = span_none (omega arith)

pub loop-k-preserved : goal.loop-k-preserved
loop-k-preserved c =
    let i = c.args.n - (c.loop-k.k + 1) in
    span_less i (omega arith) c.loop-k.invariant (omega arith) (omega arith) refl (c.loop-k.invariant.below (c.args.from + i) (omega arith))

pub returns : goal.returns
returns c = let a = c.args in run_placed a.n a.to _ a.bytes.now (span_ends c.loop-k.invariant (omega arith) refl)
