-- Area sums: the table of a picture, a box's sum from at most four of its entries, and one pixel's change.
use Rattle.std.specs.Prelude.{ℕ, ◌+◌, ◌-◌, ◌*◌, ◌/◌, ◌%◌, ◌^◌, cond, ◌&&◌, List, ◌==◌, nat_le, slice_index}
use Rattle.picture.specs.Build.{build}
use Rattle.picture.specs.Planes.{Plane, chan, laid}
use Rattle.binary32.specs.Taps.{sum_to}

-- the alphas of a picture w pixels wide
abbrev pub alpha_plane : List ℕ → ℕ → Plane
alpha_plane bytes w = chan bytes w 3

-- the sum of all values left of x and above y
abbrev pub area : Plane → ℕ → ℕ → ℕ
area p x y = sum_to (λ j. sum_to (λ i. p i j) x) y

-- the plain sum of a box: `wide` columns from x on, `high` rows from y on
abbrev pub box_sum : Plane → ℕ → ℕ → ℕ → ℕ → ℕ
box_sum p x y wide high = sum_to (λ j. sum_to (λ i. p (x + i) (y + j)) wide) high

-- the numbers of a table are kept modulo this
abbrev pub top : ℕ
top = 2 ^ 32

-- a - b, modulo 2^32
unfoldable pub less : ℕ → ℕ → ℕ
less a b = (a + (top - b)) % top

-- the number that a table has of all left of x and above y
abbrev pub entry : Plane → ℕ → ℕ → ℕ
entry p x y = area p x y % top

-- the table of a picture of w by h pixels: one number per pixel, each the sum of all above and to the left, itself included
unfoldable pub built : ℕ → ℕ → Plane → List ℕ
built w h p = build (h * w) (λ k. entry p (k % w + 1) (k / w + 1))

-- what any table says of all left of x and above y: the number at the last pixel there, and 0 where there is none
abbrev pub corner : List ℕ → ℕ → ℕ → ℕ → ℕ
corner table w x y = cond (x == 0) 0 (cond (y == 0) 0 (slice_index table ((y - 1) * w + (x - 1))))

-- a box's sum from at most four entries of any table: the box's columns down to its last row, less what of them lies above it
unfoldable pub boxed : List ℕ → ℕ → ℕ → ℕ → ℕ → ℕ → ℕ
boxed table w x y wide high =
    less (less (corner table w (x + wide) (y + high)) (corner table w x (y + high))) (less (corner table w (x + wide) y) (corner table w x y))

-- the most pixels of a box: so many alphas always sum below 2^32
unfoldable pub largest_box : ℕ
largest_box = 16843009

-- entry k of a table once those at or below and right of x, y have gained a number, modulo 2^32
abbrev pub gained : List ℕ → ℕ → ℕ → ℕ → ℕ → ℕ → ℕ
gained table w x y gain k = cond (nat_le x (k % w) && nat_le y (k / w)) ((slice_index table k + gain) % top) (slice_index table k)

-- the table of w by h pixels once the alpha at x, y has changed from old to new; what lies past its wh entries stays
unfoldable pub updated : List ℕ → ℕ → ℕ → ℕ → ℕ → ℕ → ℕ → List ℕ
updated table w h x y old new = laid (build (h * w) (gained table w x y (less new old))) table
