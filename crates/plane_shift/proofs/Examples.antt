-- Two pixels beside each other, moved by one: each plane by itself.
use mathlib.Core.Path.{◌≡◌, refl}
use mathlib.Core.Bool.{false}
use mathlib.Core.List.{List, [], ◌∷◌}
use Prim.Native.Nat.{ℕ}
use lib.IntN.{pos}
use lib.Ieee.{Float, fin}
use Rattle.picture.specs.Build.{build}
use Rattle.picture.specs.Planes.{chan, painted}
use Rattle.picture.specs.Sizes.{max_side}
use Rattle.picture.specs.Refusal.{first_else, first_of, zero_or_above, wrong_sides, wrong_length}
use Rattle.picture.specs.Answer.{Answer, settled}
use Rattle.edges.specs.Edges.{place, sample}
use Rattle.binary32.specs.Ranges.{finite}
use Rattle.binary32.specs.Round.{round_half_up, whole_offset}
use Rattle.planes.specs.Planar.{plane_of, painted_planes, planar, interleaved, on_planes}
use Rattle.shift.specs.Shift.{moved, shifted, shifted_picture}
use Rattle.shift.specs.Outcome.{wrong_offsets}
use Rattle.plane_shift.specs.Shifted.{shift_planes_outcome}

abbrev one : Float
one = fin false 1 (pos 0)

abbrev none : Float
none = fin false 0 (pos 0)

abbrev planes : List ℕ
planes = 1 ∷ 5 ∷ 2 ∷ 6 ∷ 3 ∷ 7 ∷ 4 ∷ 8 ∷ []

-- the entry's number, then the bytes
abbrev shown : Answer (List ℕ) → List ℕ
shown a = a.number ∷ a.left

pub moved_by_one : shown (shift_planes_outcome planes 2 1 one none) ≡ (0 ∷ 0 ∷ 1 ∷ 0 ∷ 2 ∷ 0 ∷ 3 ∷ 0 ∷ 4 ∷ [])
unfolding build chan painted max_side first_else first_of zero_or_above wrong_sides wrong_length settled place sample finite round_half_up whole_offset plane_of painted_planes planar interleaved on_planes moved shifted shifted_picture wrong_offsets shift_planes_outcome
moved_by_one = refl
