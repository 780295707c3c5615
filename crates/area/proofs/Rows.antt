-- One row of the table: the row's sum so far, beside what stands above.
use Rattle.std.proofs.Common.{◌≡◌, ℕ, ◌+◌, ◌*◌, ◌%◌, List, get_or, refl, ap, add-one, arith}
use Rattle.picture.specs.Planes.{Plane, chan}
use Rattle.binary32.specs.Taps.{sum_to}
use Rattle.area.specs.Area.{alpha_plane, area, top, entry}

-- the sum of row y left of x
unfoldable pub row_sum : Plane → ℕ → ℕ → ℕ
row_sum p x y = sum_to (λ i. p i y) x

pub row_none : (p : Plane) (y : ℕ) → row_sum p 0 y ≡ 0
unfolding row_sum sum_to
row_none p y = refl

row_more : (p : Plane) (x y : ℕ) → row_sum p (x + 1) y ≡ row_sum p x y + p x y
unfolding row_sum sum_to
row_more p x y = ap (sum_to (λ i. p i y)) (add-one x)

-- the number below is what stands above, and the row
down_one : (p : Plane) (x y : ℕ) → area p x (y + 1) ≡ area p x y + row_sum p x y
unfolding row_sum sum_to
down_one p x y = ap (area p x) (add-one y)

-- both modulo 2^32
pub sum_step : (p : Plane) (x y s v : ℕ) → s ≡ row_sum p x y % top → v ≡ p x y → (s + v) % top ≡ row_sum p (x + 1) y % top
sum_step p x y s v e f = omega (arith, row_more p x y)

pub entry_step : (p : Plane) (x y a s : ℕ) → a ≡ entry p x y → s ≡ row_sum p x y % top → (a + s) % top ≡ entry p x (y + 1)
entry_step p x y a s e f = omega (arith, down_one p x y)

-- the alpha that a pixel's fourth byte is
pub alpha_at : (bytes : List ℕ) (w x y : ℕ) → get_or bytes (4 * (y * w + x) + 3) 0 ≡ alpha_plane bytes w x y
unfolding chan
alpha_at bytes w x y = refl
