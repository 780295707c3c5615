-- Laws of the first check that refuses.
use mathlib.Core.Path.{◌≡◌, refl, ap, ap₂, ◌∙◌}
use mathlib.Core.Bool.{Bool, true, false, cond}
use mathlib.Core.List.{List, [], ◌∷◌, ◌++◌}
use Prim.Native.Nat.{ℕ, ◌<◌}
use native.Mathlib.Omega.{arith}
use Rattle.picture.specs.Refusal.{Check, first_else, first_of}

by_cases : (b : Bool) (k r : ℕ) → 0 < k → 0 ≡ cond b k r → (b ≡ false) × (0 ≡ r)
by_cases false k r pos e = (refl, e)
by_cases true k r pos e = absurd (omega arith)

-- no check refused: the first passed, and no other refused
pub passed : (k : Check) (ks : List Check) → 0 < k.number → 0 ≡ first_of (k ∷ ks) → (k.refuses ≡ false) × (0 ≡ first_of ks)
unfolding first_of first_else
passed k ks pos e = by_cases k.refuses k.number (first_of ks) pos e

-- no check, no refusal
pub none : 0 ≡ first_of []
unfolding first_of first_else
none = refl

-- one more check in front, as `first` answers it
pub in_front : {r later : ℕ} {b : Bool} (k : Check) (ks : List Check) → r ≡ cond b k.number later → b ≡ k.refuses → later ≡ first_of ks → r ≡ first_of (k ∷ ks)
unfolding first_of first_else
in_front k ks e eb el = e ∙ ap₂ (λ (x : Bool) (n : ℕ). cond x k.number n) eb el

-- a group of checks in front of others
joined : (ks ls : List Check) → first_else ks (first_of ls) ≡ first_of (ks ++ ls)
unfolding first_of first_else
joined [] ls = refl
joined (k ∷ ks) ls = ap (cond k.refuses k.number) (joined ks ls)

pub in_front_of : {r later : ℕ} (ks ls : List Check) → r ≡ first_else ks later → later ≡ first_of ls → r ≡ first_of (ks ++ ls)
in_front_of ks ls e el = e ∙ ap (first_else ks) el ∙ joined ks ls
