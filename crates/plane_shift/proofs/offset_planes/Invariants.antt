-- The planes below c are moved, and the others are as they were.
use mathlib.Core.Path.{◌≡◌}
use lib.ListN.{length}
use Rattle.binary32.specs.Round.{whole_offset}
use Rattle.plane_shift.proofs.Shifted.{BelowMoved}
use Rattle.plane_shift.proofs.offset_planes.Given as goal

abbrev pub invariant-loop-c : goal.invariant-loop-c
invariant-loop-c l = (length l.planes ≡ length l.initial.planes) × BelowMoved (whole_offset l.dx) (whole_offset l.dy) l.size.w l.size.h l.initial.planes l.planes l.c
