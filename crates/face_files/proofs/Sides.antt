-- The sides of a picture of a plate fit a word.
use mathlib.Core.Path.{◌≡◌, sym, ap, subst}
use mathlib.Core.List.{List}
use Prim.Native.Nat.{ℕ, ◌≤◌}
use native.Mathlib.Omega.{arith}
use Rattle.picture.specs.Answer.{Answer, answered}
use Rattle.picture.proofs.Sizes.{full_sized, room_is}
use Rattle.plate.specs.Lookup.{Picture, looked_up}
use Rattle.plate.proofs.Settle.{by_case}

abbrev Fits : Picture → Type 0
Fits p = (p.width ≤ 65536) × (p.height ≤ 65536)

pub sides_fit : (file : List ℕ) (index : ℕ) {p : Picture} → answered 0 p ≡ looked_up file index → Fits p
sides_fit file index e =
    subst Fits (sym (ap (λ (a : Answer Picture). a.left) e))
    (by_case file index (λ a. Fits a.left) (λ n. (omega arith, omega arith))
    (λ o. let s = full_sized _ _ o.sides in (omega (arith, room_is, s.w_high), omega (arith, room_is, s.h_high))))
