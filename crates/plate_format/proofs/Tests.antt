-- Laws of tests: what an "and" says, and a test that holds at each number below n.
use mathlib.Core.Path.{◌≡◌, refl, ◌∙◌, sym, ap}
use mathlib.Core.Bool.{Bool, true, false, ◌&&◌, true≢false}
use mathlib.Core.Logic.{⊎_elim}
use Prim.Native.Nat.{ℕ, zero, suc, ◌<◌}
use native.Mathlib.Nat.{eq-or-lt_of_le}
use native.Mathlib.Omega.{arith}
use Rattle.plate_format.specs.Format.{all_below}

pub both : (a b : Bool) → (a && b) ≡ true → (a ≡ true) × (b ≡ true)
both true b h = (refl, h)
both false b h = absurd (true≢false (sym h))

pub refuted : (b : Bool) → (b ≡ true → ⊥) → false ≡ b
refuted true f = absurd (f refl)
refuted false f = refl

-- a test that holds below n holds at each
pub all_at : (f : ℕ → Bool) (n i : ℕ) → i < n → all_below n f ≡ true → f i ≡ true
unfolding all_below
all_at f zero i l h = absurd (omega arith)
all_at f (suc n) i l h =
    let b = both (all_below n f) (f n) h in
    ⊎_elim (λ (e : i ≡ n). ap f e ∙ b.1) (λ lt. all_at f n i lt b.0) (eq-or-lt_of_le (omega arith))
