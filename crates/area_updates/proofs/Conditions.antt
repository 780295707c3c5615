-- Check 20 of a place as a proposition beside its Bool: it does not refuse exactly where its condition holds.
use Rattle.std.proofs.Common.{◌≡◌, ℕ, ◌*◌, ◌/◌, ◌%◌, ◌<◌, false, ◌↔◌, leb-false, mod-lt, mul_comm, div-lt_iff_lt-mul, arith}
use borrow.Author.Tests.{lt-leb}
use Rattle.area_updates.specs.Outcome.{wrong_place}

-- 20: a place in the picture
pub right_place : (w h place : ℕ) → (wrong_place w h place ≡ false) ↔ (place < w * h)
unfolding wrong_place
right_place w h place = (leb-false (w * h) place, lt-leb (w * h) place)

-- its column and its row lie in the picture
pub place_inside : (w h place : ℕ) → wrong_place w h place ≡ false → 0 < w → (place % w < w) × (place / w < h)
place_inside w h place e pos =
    let l = (right_place w h place).0 e in
    (mod-lt place pos, (div-lt_iff_lt-mul pos).1 (omega (arith, mul_comm w h)))
