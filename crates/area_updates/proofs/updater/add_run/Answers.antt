use Rattle.std.proofs.Common.{ℕ, ◌+◌, ◌%◌, ap, arith}
use Rattle.picture.proofs.Spans.{span_none, span_more, span_ends}
use Rattle.area.specs.Area.{top}
use Rattle.area_updates.proofs.updater.add_run.Goals as goal

pub loop-k-init : goal.loop-k-init
loop-k-init c = span_none (omega arith)

pub loop-k-preserved : goal.loop-k-preserved
loop-k-preserved c =
    let l = c.loop-k in
    let kept = l.invariant.above l.k (omega arith) in
    span_more l.invariant (omega arith) (omega arith) (omega arith) (ap (λ (v : ℕ). (v + c.args.gain) % top) kept)

pub returns : goal.returns
returns c = let l = c.loop-k in span_ends l.invariant (omega arith) (omega arith)
