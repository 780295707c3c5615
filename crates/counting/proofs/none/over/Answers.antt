-- The greatest of the three, less the fourth.
use mathlib.Core.Path.{◌∙◌, ap}
use Prim.Native.Nat.{ℕ, ◌+◌, ◌-◌, max}
use lib.ListN.{get_or}
use Rattle.counting.specs.Over.{over_at}
use Rattle.counting.proofs.none.over.Goals as goal

pub returns : goal.returns
unfolding over_at
returns c = c.saturating_sub.ensures ∙ ap (λ (n : ℕ). n - get_or c.args.picture.now (c.args.j + 3) 0) (c.max-most.ensures ∙ ap (max _) c.max.ensures)
