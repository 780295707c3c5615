-- The bytes before the next one are the table's.
use lib.ListN.{get_or}
use Rattle.picture.proofs.Filled.{Filling}
use Rattle.composite.proofs.pass_through.Given as goal

abbrev pub invariant-loop-alpha : goal.invariant-loop-alpha
invariant-loop-alpha l = Filling 0 (λ k. get_or l.table (get_or l.initial.plane k 0) 0) l.initial.plane l.plane l.alpha-index
