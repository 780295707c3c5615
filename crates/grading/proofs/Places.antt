-- Laws of places: the scan from each on.
use mathlib.Core.Path.{◌≡◌}
use mathlib.Core.Bool.{Bool, true, false}
use mathlib.Core.List.{List}
use Prim.Native.Nat.{ℕ, suc, ◌+◌, ◌-◌, ◌*◌, ◌<◌, ◌≤◌}
use native.Mathlib.Nat.{sub-zero}
use native.Mathlib.Numerals.{add-one}
use native.Mathlib.Omega.{arith}
use Rattle.pixels.specs.Channels.{exceeds_at}
use Rattle.grading.specs.Premultiplied.{Finding, none, found_at, first_from, scanned}

-- the scan of m places, from k on
abbrev pub onward : (ℕ → Bool) → ℕ → ℕ → Finding
onward f m k = first_from f k (m - k)

-- the scan of a picture begins at place 0
pub start : (bytes : List ℕ) (w h : ℕ) → scanned bytes w h ≡ onward (exceeds_at bytes) (w * h) 0
unfolding scanned
start bytes w h = rw sub-zero

module _ (f : ℕ → Bool) (m k : ℕ) where
  one_less : k < m → m - k ≡ suc (m - (k + 1))
  one_less l = omega arith

  -- past a place at which the test fails
  pub past : k < m → f k ≡ false → onward f m k ≡ onward f m (k + 1)
  unfolding first_from
  past l h = rw (one_less l, h, add-one)

  -- it ends at a place at which the test holds
  pub stops : k < m → f k ≡ true → onward f m k ≡ found_at k
  unfolding first_from
  stops l h = rw (one_less l, h)

  -- and after the last
  pub ends : m ≤ k → onward f m k ≡ none
  unfolding first_from
  ends l = let z : m - k ≡ 0 = omega arith in rw z
