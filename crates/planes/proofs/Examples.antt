-- Two pixels beside each other, converted both ways, with a byte past them that stays.
use mathlib.Core.Path.{◌≡◌, refl}
use mathlib.Core.List.{List, [], ◌∷◌}
use Prim.Native.Nat.{ℕ}
use Rattle.picture.specs.Build.{build}
use Rattle.picture.specs.Planes.{chan, painted, laid}
use Rattle.picture.specs.Sizes.{max_side}
use Rattle.picture.specs.Refusal.{first_else, first_of, zero_or_above, wrong_sides, wrong_length, too_short}
use Rattle.picture.specs.Answer.{Answer, settled}
use Rattle.planes.specs.Planar.{plane_of, painted_planes, planar, interleaved}
use Rattle.planes.specs.Outcome.{converted_outcome, to_planes_outcome, from_planes_outcome}

-- the entry's number, then the bytes
abbrev shown : Answer (List ℕ) → List ℕ
shown a = a.number ∷ a.left

abbrev pair : List ℕ
pair = 1 ∷ 2 ∷ 3 ∷ 4 ∷ 5 ∷ 6 ∷ 7 ∷ 8 ∷ []

abbrev apart : List ℕ
apart = 1 ∷ 5 ∷ 2 ∷ 6 ∷ 3 ∷ 7 ∷ 4 ∷ 8 ∷ []

abbrev nine : List ℕ
nine = 0 ∷ 0 ∷ 0 ∷ 0 ∷ 0 ∷ 0 ∷ 0 ∷ 0 ∷ 9 ∷ []

pub both_ways : (shown (to_planes_outcome pair 2 1 nine) ∷ shown (from_planes_outcome apart 2 1 nine) ∷ []) ≡
    ((0 ∷ 1 ∷ 5 ∷ 2 ∷ 6 ∷ 3 ∷ 7 ∷ 4 ∷ 8 ∷ 9 ∷ []) ∷ (0 ∷ 1 ∷ 2 ∷ 3 ∷ 4 ∷ 5 ∷ 6 ∷ 7 ∷ 8 ∷ 9 ∷ []) ∷ [])
unfolding build chan painted laid max_side first_else first_of zero_or_above wrong_sides wrong_length too_short settled plane_of painted_planes planar interleaved converted_outcome
both_ways = refl

-- refused in order: 1 before 2 before 3, and nothing is written
pub in_order : (shown (to_planes_outcome [] 0 1 []) ∷ shown (to_planes_outcome [] 1 1 []) ∷ shown (from_planes_outcome (1 ∷ 2 ∷ 3 ∷ 4 ∷ []) 1 1 (9 ∷ 9 ∷ 9 ∷ [])) ∷ []) ≡
    ((1 ∷ []) ∷ (2 ∷ []) ∷ (3 ∷ 9 ∷ 9 ∷ 9 ∷ []) ∷ [])
unfolding build chan painted laid max_side first_else first_of zero_or_above wrong_sides wrong_length too_short settled plane_of painted_planes planar interleaved converted_outcome
in_order = refl
