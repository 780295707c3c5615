-- Before each turn the bodies below i are blurred, all else is as it was, and the scratch is zero as far as the longest of them.
use mathlib.Core.Path.{◌≡◌}
use Rattle.plate_numbers.specs.Numbers.{count}
use Rattle.body_blur.specs.Blur.{plate_blur}
use Rattle.job.proofs.Turns.{Turn}
use Rattle.job.proofs.blur_bodies.Given as goal

abbrev pub invariant-loop-i : goal.invariant-loop-i
invariant-loop-i l = (l.n ≡ count l.initial.plate) × Turn plate_blur l.initial.plate l.initial.scratch l.i l.start l.plate l.scratch
