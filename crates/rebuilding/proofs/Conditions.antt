-- Check 18 as a proposition beside its Bool: it does not refuse exactly where every place is inside and above the one before.
-- And check 17 does not refuse a list with room for every pixel.
use mathlib.Core.Path.{◌≡◌, refl}
use mathlib.Core.Bool.{true, false}
use mathlib.Core.List.{List, [], ◌∷◌}
use mathlib.Core.Logic.{◌↔◌}
use Prim.Native.Nat.{ℕ, zero, suc, ◌*◌, ◌≤◌, ◌<◌}
use native.Mathlib.Omega.{arith}
use borrow.Author.Tests.{le-leb, lt-ltb, le-ltb, not-false}
use lib.Dec.{ltb}
use lib.ListN.{length, get_or}
use Rattle.pixels.specs.Channels.{exceeds_at}
use Rattle.rebuilding.specs.Restored.{change_place, rising}
use Rattle.rebuilding.specs.Outcome.{wrong_list}
use Rattle.mending.specs.Outcome.{failing}
use Rattle.counting.proofs.Counted.{many_le}
use Rattle.rebuilding.proofs.Rising.{rising_first, rising_inside}

pub record Risen (list : List (List ℕ)) (area : ℕ) : Type 0 where
  pub inside : (i : ℕ) → i < length list → change_place (get_or list i []) < area
  pub order : (i : ℕ) → suc i < length list → change_place (get_or list i []) < change_place (get_or list (suc i) [])

in_order : (next area : ℕ) (list : List (List ℕ)) → rising next area list ≡ true → (i : ℕ) → suc i < length list →
    change_place (get_or list i []) < change_place (get_or list (suc i) [])
in_order next area [] h i l = absurd (omega arith)
in_order next area (e ∷ []) h i l = absurd (omega arith)
in_order next area (e ∷ f ∷ es) h zero l = (rising_first (suc (change_place e)) area f es (rising_first next area e (f ∷ es) h).2).0
in_order next area (e ∷ f ∷ es) h (suc i) l = in_order (suc (change_place e)) area (f ∷ es) (rising_first next area e (f ∷ es) h).2 i (omega arith)

rises : (next area : ℕ) (list : List (List ℕ)) → Risen list area → (0 < length list → next ≤ change_place (get_or list zero [])) → rising next area list ≡ true
unfolding rising
rises next area [] r low = refl
rises next area (e ∷ es) r low =
    rw (le-leb next (change_place e) (low (omega arith)), lt-ltb (change_place e) area (r.inside zero (omega arith)))
    (rises (suc (change_place e)) area es
    (record { inside = λ i l. r.inside (suc i) (omega arith); order = λ i l. r.order (suc i) (omega arith) })
    (λ l. r.order zero (omega arith)))

pub right_list : (list : List (List ℕ)) (area : ℕ) → (wrong_list list area ≡ false) ↔ Risen list area
unfolding wrong_list
right_list list area = (
  λ e.
      let h = not-false _ e in
      record { inside = rising_inside 0 area list h; order = in_order 0 area list h },
  λ r. rw (rises 0 area list r (λ _. omega arith)),
)

-- room for w·h entries is always enough
pub never_full : (p : List ℕ) (w h room : ℕ) → w * h ≤ room → ltb room (failing p w h) ≡ false
never_full p w h room l = le-ltb room (failing p w h) (omega (arith, many_le (exceeds_at p) (w * h)))
