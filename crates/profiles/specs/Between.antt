-- With a sum of exactly 65536 and any mode but None, each output channel lies between that channel's least and greatest input (request 04).
use Rattle.std.specs.Prelude.{◌≡◌, List, ℕ, zero, suc, ◌-◌, ◌*◌, ◌/◌, ◌%◌, ◌≤◌, ◌<◌, min, max}
use Rattle.picture.specs.Planes.{Plane, chan}
use Rattle.picture.specs.declared.EdgeMode.{EdgeMode}
use Rattle.picture.specs.declared.EdgeMode.TheVariants.{None}
use Rattle.binary32.specs.Grid.{sum}
use Rattle.whole_blur.specs.Blurred.{whole_blurred}

-- channel c of a picture lies from low to high
abbrev pub InRange : ℕ → ℕ → ℕ → ℕ → ℕ → List ℕ → Type 0
InRange low high w h c p = (x y : ℕ) → x < w → y < h → (low ≤ chan p w c x y) × (chan p w c x y ≤ high)

-- whatever bounds hold of the input hold of the output, through every n
abbrev pub StaysBetween : Type 0
StaysBetween =
    (ms : List ℕ) → sum ms ≡ 65536 → (mode : EdgeMode) → (mode ≡ None → ⊥) → (n w h : ℕ) (p : List ℕ) (c low high : ℕ) → c < 4 →
    InRange low high w h c p → InRange low high w h c (whole_blurred mode ms n w h p)

-- the least and the greatest of f 0, .., f n
unfoldable pub least_to : (ℕ → ℕ) → ℕ → ℕ
least_to f zero = f 0
least_to f (suc n) = min (least_to f n) (f (suc n))

unfoldable pub greatest_to : (ℕ → ℕ) → ℕ → ℕ
greatest_to f zero = f 0
greatest_to f (suc n) = max (greatest_to f n) (f (suc n))

-- of a plane of w by h values
abbrev pub least_of : ℕ → ℕ → Plane → ℕ
least_of w h p = least_to (λ k. p (k % w) (k / w)) (w * h - 1)

abbrev pub greatest_of : ℕ → ℕ → Plane → ℕ
greatest_of w h p = greatest_to (λ k. p (k % w) (k / w)) (w * h - 1)

-- so the least and the greatest input do
abbrev pub BetweenExtremes : Type 0
BetweenExtremes =
    (ms : List ℕ) → sum ms ≡ 65536 → (mode : EdgeMode) → (mode ≡ None → ⊥) → (n w h : ℕ) (p : List ℕ) (c : ℕ) → c < 4 →
    InRange (least_of w h (chan p w c)) (greatest_of w h (chan p w c)) w h c (whole_blurred mode ms n w h p)
