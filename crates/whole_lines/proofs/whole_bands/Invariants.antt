-- Each turn makes one band more, and all of them are the pass. A band of the picture is spoiled when it is lent; those after it are as they were.
use mathlib.Core.Path.{◌≡◌}
use Prim.Native.Nat.{ℕ, ◌*◌, ◌-◌, ◌≤◌}
use lib.ListN.{length, get_or}
use Rattle.passes.proofs.Written.{Lined}
use Rattle.grid_sums.specs.Sums.{whole_convolve}
use Rattle.whole_lines.proofs.whole_bands.Given as goal

abbrev pub invariant-loop-y : goal.invariant-loop-y
invariant-loop-y l = (l.y ≤ l.h) × (length l.picture ≡ length l.initial.picture) × ((j : ℕ) → l.y * (l.w * 4) ≤ j → get_or l.picture j 0 ≡ get_or l.initial.picture j 0) × Lined (whole_convolve l.mode l.numerators) l.initial.picture l.w l.w 4 l.initial.scratch l.scratch l.y

abbrev pub decreases-loop-y : goal.decreases-loop-y
decreases-loop-y l = l.h - l.y
