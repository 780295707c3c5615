-- A turn of the walk that sets the same columns of each row to 0.
use mathlib.Core.Path.{◌≡◌, sym, ap, ◌∙◌}
use mathlib.Core.List.{List}
use Prim.Native.Nat.{ℕ, ◌+◌, ◌-◌, ◌*◌, ◌%◌, ◌≤◌, ◌<◌}
use native.Mathlib.Nat.{add-mul, one-mul, mul-le-mul_right}
use native.Mathlib.Omega.{arith}
use lib.ListN.{length}
use Rattle.picture.specs.Planes.{Line}
use Rattle.picture.proofs.Planes.{remainder}
use Rattle.picture.specs.Buffers.{line_of}
use Rattle.shift.specs.Bytes.{blank, zeroed}
use Rattle.shift.proofs.Moved.{Where, before, inside, past, find}
use Rattle.shift.proofs.Zeroed.{blank_before, blank_inside, blank_past, zeroed_is}
use Rattle.picture.proofs.Walk.{up_to, upto_below, upto_from, done_below}

-- row y of h, of w bytes each, ends where they all do, at the latest
pub row_fits : (w h y : ℕ) → y < h → y * w + w ≤ h * w
row_fits w h y l = omega (arith, mul-le-mul_right {m = y + 1} {n = h} w (omega arith), add-mul y 1 w, one-mul w)

-- columns a up to a + n of every row are 0
abbrev pub blank_columns : ℕ → ℕ → ℕ → List ℕ → Line
blank_columns w a n old i = blank a n (i % w) (line_of old i)

module _ (old : List ℕ) (w a n y : ℕ) (l : a + n ≤ w) where
  abbrev to : Line
  to = blank_columns w a n old

  -- byte x of row y
  column : (j x : ℕ) → j ≡ y * w + x → x < w → to j ≡ blank a n x (line_of old j)
  column j x e m = ap (λ (k : ℕ). blank a n k (line_of old j)) (ap (λ (k : ℕ). k % w) e ∙ remainder w y x m)

  -- what is kept in row y, and in the rows above and below it
  kept : (j : ℕ) → ((x : ℕ) → j ≡ y * w + x → x < w → blank a n x (line_of old j) ≡ line_of old j) → Where w j (y * w) →
      up_to (y * w) to (line_of old) j ≡ up_to (y * w + w) to (line_of old) j
  kept j f (before h) = upto_below to (line_of old) (y * w) j h ∙ sym (upto_below to (line_of old) (y * w + w) j (omega arith))
  kept j f (inside x e h) =
      upto_from to (line_of old) (y * w) j (omega arith)
      ∙ sym (f x e h)
      ∙ sym (column j x e h)
      ∙ sym (upto_below to (line_of old) (y * w + w) j (omega arith))
  kept j f (past h) = upto_from to (line_of old) (y * w) j (omega arith) ∙ sym (upto_from to (line_of old) (y * w + w) j h)

  pub row_turn : zeroed (y * w + a) n (done_below old to (y * w)) ≡ done_below old to (y * w + w)
  row_turn =
      zeroed_is (length old) _ _ (y * w + a) n
      (λ j h. kept j (λ x e m. blank_before a n x _ (omega arith)) (find w j (y * w)))
      (λ j h k.
      let x = j - y * w in
      upto_below to (line_of old) (y * w + w) j (omega arith) ∙ column j x (omega arith) (omega arith) ∙ blank_inside a n x _ (omega arith) (omega arith))
      (λ j h k. kept j (λ x e m. blank_past a n x _ (omega arith)) (find w j (y * w)))
