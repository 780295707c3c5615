-- The box law: four sums make a box, also modulo 2^32.
use mathlib.Core.Path.{◌≡◌, ◌∙◌}
use Prim.Native.Nat.{ℕ, ◌+◌, ◌*◌, ◌%◌, ◌≤◌, ◌<◌}
use native.Mathlib.Nat.{mul_assoc, mul_comm}
use native.Mathlib.Omega.{arith}
use Rattle.picture.specs.Planes.{Line, Plane}
use Rattle.binary32.specs.Taps.{sum_to}
use Rattle.area.specs.Area.{area, box_sum, top, less, entry, largest_box}
use Rattle.area.proofs.Sums.{sum_split, sum_add, sum_same, sum_bound}

module _ (p : Plane) (x wide : ℕ) where
  -- one row of the box's columns
  abbrev strip : Line
  strip j = sum_to (λ i. p (x + i) j) wide

  -- the box's columns, n rows of them, beside what lies left of them
  columns : (n : ℕ) → area p (x + wide) n ≡ area p x n + sum_to strip n
  columns n = sum_same _ _ n (λ j l. sum_split (λ i. p i j) x wide) ∙ sum_add (λ j. sum_to (λ i. p i j) x) strip n

-- a difference, modulo 2^32
pub less_mod : (a b c : ℕ) → a ≡ b + c → less (a % top) (b % top) ≡ c % top
unfolding less
less_mod a b c e = omega arith

-- three differences of four numbers of the table make the box's sum, modulo 2^32
pub box_law : (p : Plane) (x y wide high : ℕ) →
    less (less (entry p (x + wide) (y + high)) (entry p x (y + high))) (less (entry p (x + wide) y) (entry p x y)) ≡ box_sum p x y wide high % top
box_law p x y wide high =
    rw (
      less_mod _ _ _ (columns p x wide (y + high)),
      less_mod _ _ _ (columns p x wide y),
      less_mod _ _ _ (sum_split (strip p x wide) y high),
    )

-- a box of at most so many pixels, each at most 255, is below 2^32
pub box_fits : (p : Plane) (x y wide high : ℕ) → wide * high ≤ largest_box → ((i j : ℕ) → p i j ≤ 255) → box_sum p x y wide high < top
unfolding largest_box
box_fits p x y wide high few byte =
    omega (
      arith,
      sum_bound (λ j. sum_to (λ i. p (x + i) (y + j)) wide) (wide * 255) high (λ j l. sum_bound (λ i. p (x + i) (y + j)) 255 wide (λ i m. byte (x + i) (y + j))),
      mul_assoc high wide 255,
      mul_comm high wide,
    )
