-- Check 20 of a box as a proposition beside its Bool: it does not refuse exactly where its condition holds.
use mathlib.Core.Path.{◌≡◌}
use mathlib.Core.Bool.{false}
use mathlib.Core.Logic.{◌↔◌}
use Prim.Native.Nat.{ℕ, ◌+◌, ◌*◌, ◌≤◌}
use native.Mathlib.Omega.{arith}
use borrow.Author.Tests.{eqb-false, ne_eqb, ltb-false, le-ltb}
use Rattle.picture.specs.Refusal.{zero_or_above}
use Rattle.picture.proofs.Conditions.{both_pass}
use Rattle.area.specs.Area.{largest_box}
use Rattle.area_boxes.specs.Outcome.{wrong_box}

-- 20: from 1 pixel to the most, each in the picture
pub record InPicture (w h x y wide high : ℕ) : Type 0 where
  pub some : 1 ≤ wide * high
  pub few : wide * high ≤ largest_box
  pub right : x + wide ≤ w
  pub below : y + high ≤ h

pub right_box : (w h x y wide high : ℕ) → (wrong_box w h x y wide high ≡ false) ↔ InPicture w h x y wide high
unfolding wrong_box zero_or_above
right_box w h x y wide high =
    let size = both_pass (eqb-false (wide * high) 0, ne_eqb (wide * high) 0) (ltb-false largest_box (wide * high), le-ltb largest_box (wide * high)) in
    let place = both_pass (ltb-false w (x + wide), le-ltb w (x + wide)) (ltb-false h (y + high), le-ltb h (y + high)) in
    let all = both_pass size place in (
      λ e.
          let t = all.0 e in
          record { some = above t.0.0; few = t.0.1; right = t.1.0; below = t.1.1 },
      λ i. all.1 ((λ z. omega (arith, i.some), i.few), (i.right, i.below)),
    )
  where
    above : (wide * high ≡ 0 → ⊥) → 1 ≤ wide * high
    above f = omega arith

pub box_inside : (w h x y wide high : ℕ) → wrong_box w h x y wide high ≡ false → (x + wide ≤ w) × (y + high ≤ h)
box_inside w h x y wide high e = let i = (right_box w h x y wide high).0 e in (i.right, i.below)
