-- The first i bytes are products, and the others are as they were.
use mathlib.Core.Path.{◌≡◌}
use mathlib.Core.List.{◌++◌}
use lib.ListN.{length, get_or, drop}
use Rattle.picture.specs.Build.{build}
use Rattle.pixels.specs.Channels.{premultiply}
use Rattle.pam_convert.proofs.blocks.multiply.Given as goal

abbrev pub invariant-loop-i : goal.invariant-loop-i
invariant-loop-i l = (l.picture ≡ build l.i (λ j. premultiply (get_or l.body j 0) (get_or l.factors j 0)) ++ drop l.i l.initial.picture) × (length l.picture ≡ length l.initial.picture)
