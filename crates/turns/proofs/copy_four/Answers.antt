-- One byte after another is written.
use mathlib.Core.Path.{refl}
use native.Mathlib.Omega.{arith}
use lib.ListN.{length-set}
use Rattle.picture.proofs.Spans.{span_none, span_more}
use Rattle.passes.proofs.Planes.{at}
use Rattle.turns.proofs.copy_four.Goals as goal

pub returns : goal.returns
returns c =
    span_more {b = 3}
    (span_more {b = 2}
    (span_more {b = 1}
    (span_more {b = 0} (span_none (omega arith)) (omega arith) (omega arith) (omega arith) (at c.args.src.now (omega arith)))
    (omega arith) (simp length-set (omega arith)) refl refl)
    (omega arith) (simp length-set (omega arith)) refl refl)
    (omega arith) (simp length-set (omega arith)) refl refl

pub bounds-dst-q-2 : goal.bounds-dst-q-2
bounds-dst-q-2 c = simp length-set (omega arith)

pub bounds-dst-q-3 : goal.bounds-dst-q-3
bounds-dst-q-3 c = simp length-set (omega arith)

pub bounds-dst-q-4 : goal.bounds-dst-q-4
bounds-dst-q-4 c = simp length-set (omega arith)
