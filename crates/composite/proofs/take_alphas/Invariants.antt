-- The first i alphas are taken.
use Prim.Native.Nat.{◌+◌, ◌*◌}
use lib.ListN.{get_or}
use Rattle.picture.proofs.Filled.{Filling}
use Rattle.composite.proofs.take_alphas.Given as goal

abbrev pub invariant-loop-i : goal.invariant-loop-i
invariant-loop-i l = Filling 0 (λ k. get_or l.picture (4 * k + 3) 0) l.initial.plane l.plane l.i
