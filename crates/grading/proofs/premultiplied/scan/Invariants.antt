-- So far nothing is found: the scan of all places is the scan from here on.
use mathlib.Core.Path.{◌≡◌}
use mathlib.Core.List.{List}
use Prim.Native.Nat.{ℕ, ◌+◌, ◌*◌}
use Rattle.pixels.specs.Channels.{exceeds_at}
use Rattle.grading.specs.Premultiplied.{scanned}
use Rattle.grading.proofs.Places.{onward}
use Rattle.grading.proofs.premultiplied.scan.Given as goal

-- nothing is found before place k
abbrev pub Reached : List ℕ → ℕ → ℕ → ℕ → Type 0
Reached picture w h k = scanned picture w h ≡ onward (exceeds_at picture) (w * h) k

abbrev pub invariant-loop-x : goal.invariant-loop-x
invariant-loop-x l = Reached l.picture l.w l.h (l.y * l.w + l.x)

abbrev pub invariant-loop-y : goal.invariant-loop-y
invariant-loop-y l = Reached l.picture l.w l.h (l.y * l.w)
