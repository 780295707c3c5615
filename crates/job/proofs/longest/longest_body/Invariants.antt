-- The running number is the longest of the bodies below i.
use mathlib.Core.Path.{◌≡◌}
use Rattle.job.specs.Job.{longest_below}
use Rattle.job.proofs.longest.longest_body.Given as goal

abbrev pub invariant-loop-i : goal.invariant-loop-i
invariant-loop-i l = l.longest ≡ longest_below l.plate l.i
