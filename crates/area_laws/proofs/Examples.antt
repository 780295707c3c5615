-- Worked calls: small pictures and tables whose answers were found by adding up, one or more for each refusal, and sums that pass 2^32.
use mathlib.Core.Path.{◌≡◌, refl}
use mathlib.Core.Bool.{true, false}
use mathlib.Core.List.{List, [], ◌∷◌}
use Prim.Native.Nat.{ℕ, suc, ◌+◌}
use Rattle.picture.specs.Answer.{answered, settled}
use Rattle.picture.specs.Build.{build}
use Rattle.picture.specs.Planes.{chan, laid}
use Rattle.picture.specs.Refusal.{first_else, first_of, zero_or_above, wrong_sides, wrong_length}
use Rattle.picture.specs.Sizes.{max_side}
use Rattle.binary32.specs.Taps.{sum_to}
use Rattle.area.specs.Area.{less, built, boxed, largest_box, updated}
use Rattle.area_boxes.specs.Outcome.{wrong_box, box_outcome}
use Rattle.area_updates.specs.Outcome.{wrong_place, update_outcome}
use Rattle.area.specs.Outcome.{short_table, build_outcome}

-- 3 by 2 pixels, their alphas 1, 2, 3 over 40, 50, 60
abbrev given : List ℕ
given =
    9 ∷ 8 ∷ 7 ∷ 1 ∷ 9 ∷ 8 ∷ 7 ∷ 2 ∷ 9 ∷ 8 ∷ 7 ∷ 3
    ∷ 9 ∷ 8 ∷ 7 ∷ 40 ∷ 9 ∷ 8 ∷ 7 ∷ 50 ∷ 9 ∷ 8 ∷ 7 ∷ 60 ∷ []

-- their table, and two entries more
abbrev sums : List ℕ
sums = 1 ∷ 3 ∷ 6 ∷ 41 ∷ 93 ∷ 156 ∷ 8 ∷ 9 ∷ []

-- in a table that is longer, in one that is too short, at other sides with a short table, and at sides that are none
pub build-calls :
    (build_outcome given 3 2 (5 ∷ 5 ∷ 5 ∷ 5 ∷ 5 ∷ 5 ∷ 8 ∷ 9 ∷ [])
    ∷ build_outcome given 3 2 (5 ∷ 5 ∷ 5 ∷ 5 ∷ 5 ∷ [])
    ∷ build_outcome given 2 2 []
    ∷ build_outcome given 0 2 []
    ∷ build_outcome given (suc max_side) 1 []
    ∷ [])
    ≡ (answered 0 sums ∷ answered 3 (5 ∷ 5 ∷ 5 ∷ 5 ∷ 5 ∷ []) ∷ answered 2 [] ∷ answered 1 [] ∷ answered 1 [] ∷ [])
unfolding build_outcome settled first_of first_else wrong_sides zero_or_above max_side wrong_length short_table laid built build chan sum_to
build-calls = refl

-- sums that pass 2^32
pub past_the_top : built 2 2 (λ x y. 4294967295 + x + y) ≡ (4294967295 ∷ 4294967295 ∷ 4294967295 ∷ 0 ∷ [])
unfolding built build sum_to
past_the_top = refl

-- all of it; two pixels of the lower row; a column; one pixel; a table that no picture has; and then what is refused
pub box-calls :
    (box_outcome sums 3 2 0 0 3 2
    ∷ box_outcome sums 3 2 1 1 2 1
    ∷ box_outcome sums 3 2 1 0 1 2
    ∷ box_outcome sums 3 2 2 1 1 1
    ∷ box_outcome (5 ∷ 4294967295 ∷ 7 ∷ 9 ∷ 1 ∷ 3 ∷ []) 3 2 1 1 2 1
    ∷ box_outcome sums 3 2 0 0 0 1
    ∷ box_outcome sums 3 2 0 0 1 0
    ∷ box_outcome sums 3 2 2 0 2 1
    ∷ box_outcome sums 3 2 0 1 1 2
    ∷ box_outcome sums 3 2 4294967295 0 1 1
    ∷ box_outcome sums 3 3 0 0 0 0
    ∷ box_outcome [] 3 0 0 0 0 0
    ∷ [])
    ≡ (answered 0 156
    ∷ answered 0 110
    ∷ answered 0 52
    ∷ answered 0 60
    ∷ answered 0 4294967288
    ∷ answered 20 0
    ∷ answered 20 0
    ∷ answered 20 0
    ∷ answered 20 0
    ∷ answered 20 0
    ∷ answered 3 0
    ∷ answered 1 0
    ∷ [])
unfolding box_outcome settled first_of first_else wrong_sides zero_or_above max_side short_table wrong_box largest_box boxed less
box-calls = refl

-- the largest box, and one pixel more
pub largest : (wrong_box 16843010 1 1 0 16843009 1 ∷ wrong_box 16843010 1 0 0 16843010 1 ∷ []) ≡ (false ∷ true ∷ [])
unfolding wrong_box zero_or_above largest_box
largest = refl

-- an alpha lowered, and one raised; one raised and one lowered in a table that is longer than its picture; and then what is refused
pub update-calls :
    (update_outcome sums 3 2 1 2 0
    ∷ update_outcome sums 3 2 3 40 41
    ∷ update_outcome (0 ∷ 0 ∷ 0 ∷ 0 ∷ 0 ∷ 0 ∷ []) 3 1 0 0 1
    ∷ update_outcome (0 ∷ 0 ∷ 0 ∷ 0 ∷ 0 ∷ 0 ∷ []) 3 1 1 1 0
    ∷ update_outcome sums 3 2 6 0 1
    ∷ update_outcome sums 3 2 4294967296 0 1
    ∷ update_outcome sums 3 3 9 0 1
    ∷ update_outcome [] 0 3 9 0 1
    ∷ [])
    ≡ (answered 0 (1 ∷ 1 ∷ 4 ∷ 41 ∷ 91 ∷ 154 ∷ 8 ∷ 9 ∷ [])
    ∷ answered 0 (1 ∷ 3 ∷ 6 ∷ 42 ∷ 94 ∷ 157 ∷ 8 ∷ 9 ∷ [])
    ∷ answered 0 (1 ∷ 1 ∷ 1 ∷ 0 ∷ 0 ∷ 0 ∷ [])
    ∷ answered 0 (0 ∷ 4294967295 ∷ 4294967295 ∷ 0 ∷ 0 ∷ 0 ∷ [])
    ∷ answered 20 sums
    ∷ answered 20 sums
    ∷ answered 3 sums
    ∷ answered 1 []
    ∷ [])
unfolding update_outcome settled first_of first_else wrong_sides zero_or_above max_side short_table wrong_place updated laid build less
update-calls = refl
