-- The first entries are back, and all are once the others are.
use mathlib.Core.Path.{◌≡◌}
use lib.ListN.{length, drop}
use Rattle.rebuilding.specs.Restored.{restored}
use Rattle.rebuilding.proofs.rebuilder.put_back.Given as goal

abbrev pub invariant-loop-entry : goal.invariant-loop-entry
invariant-loop-entry l = (restored l.list l.initial.picture ≡ restored (drop l.entry-index l.list) l.picture) × (length l.picture ≡ length l.initial.picture)
