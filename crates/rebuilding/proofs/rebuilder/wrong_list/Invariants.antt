-- So far the places rise, and all do if those from here on do.
use mathlib.Core.Path.{◌≡◌}
use lib.ListN.{drop}
use Rattle.rebuilding.specs.Restored.{rising}
use Rattle.rebuilding.proofs.rebuilder.wrong_list.Given as goal

abbrev pub invariant-loop-entry : goal.invariant-loop-entry
invariant-loop-entry l = rising 0 l.area l.list ≡ rising l.next l.area (drop l.entry-index l.list)
