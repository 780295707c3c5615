-- Laws of a run of bytes that is moved: by its rule at each index, and as what stays inside copied and the rest cleared.
use mathlib.Core.Path.{◌≡◌, sym, ap, ◌∙◌}
use mathlib.Core.List.{List}
use Prim.Native.Nat.{ℕ, ◌+◌, ◌-◌, ◌≤◌}
use native.Mathlib.Omega.{arith}
use lib.ListN.{length}
use Rattle.picture.specs.Planes.{Line}
use Rattle.picture.specs.Buffers.{line_of, line_from, placed_at, placed, copied}
use Rattle.picture.proofs.Build.{build_same}
use Rattle.picture.proofs.Placed.{placed_before, placed_inside, placed_past, length_placed, placed_at_lem}
use Rattle.binary32.specs.declared.Offset.{Offset}
use Rattle.shift.specs.Shift.{moved}
use Rattle.shift.specs.Bytes.{slid, zeroed, blank, run_moved, OneWay}
use Rattle.shift.proofs.Moved.{Where, before, inside, past, find, moved_is, moved_ext}
use Rattle.shift.proofs.Zeroed.{blank_before, blank_inside, blank_past, ends_zeroed}

module _ (d : Offset) (w a b : ℕ) (bytes : List ℕ) (one : OneWay d) (l : d.plus + d.minus ≤ w) (fits : b + w ≤ length bytes) where
  abbrev kept : ℕ
  kept = w - (d.plus + d.minus)

  -- what is copied, and what the run is to be
  abbrev taken : Line
  taken = line_from (a + d.minus) bytes

  abbrev made : Line
  made = moved d w (line_from a bytes)

  -- byte j, once what does not stay inside is cleared
  cleared_at : (j : ℕ) → Where w j b → blank (b + d.plus + kept) d.minus j (blank b d.plus j (placed_at kept (b + d.plus) taken bytes j)) ≡ placed_at w b made bytes j
  cleared_at j (before h) =
      blank_before (b + d.plus + kept) d.minus j _ (omega arith)
      ∙ blank_before b d.plus j _ h
      ∙ placed_before kept (b + d.plus) taken bytes j (omega arith)
      ∙ sym (placed_before w b made bytes j h)
  cleared_at j (inside x e h) =
      moved_is d w (line_from a bytes) x _
      (λ m. blank_before (b + d.plus + kept) d.minus j _ (omega arith) ∙ blank_inside b d.plus j _ (omega arith) (omega arith))
      (λ i f m.
      blank_before (b + d.plus + kept) d.minus j _ (omega arith)
      ∙ blank_past b d.plus j _ (omega arith)
      ∙ placed_inside kept (b + d.plus) taken bytes j (x - d.plus) (omega arith) (omega arith)
      ∙ ap (line_of bytes) (omega arith))
      (λ m. blank_inside (b + d.plus + kept) d.minus j _ (omega arith) (omega arith))
      ∙ sym (placed_inside w b made bytes j x e h)
  cleared_at j (past h) =
      blank_past (b + d.plus + kept) d.minus j _ (omega arith)
      ∙ blank_past b d.plus j _ (omega arith)
      ∙ placed_past kept (b + d.plus) taken bytes j (omega arith)
      ∙ sym (placed_past w b made bytes j h)

  pub run_cleared : zeroed (b + d.plus + kept) d.minus (zeroed b d.plus (copied kept (a + d.minus) (b + d.plus) bytes)) ≡ run_moved d w a b bytes
  unfolding placed
  run_cleared =
      ends_zeroed (length bytes) (placed_at w b made bytes) _ b d.plus (b + d.plus + kept) d.minus
      (length_placed kept (b + d.plus) taken bytes)
      (λ j m. ap (λ (v : ℕ). blank (b + d.plus + kept) d.minus j (blank b d.plus j v)) (placed_at_lem kept (b + d.plus) taken bytes j m) ∙ cleared_at j (find w j b))

-- the run is all bytes
pub run_all : (d : Offset) (bytes : List ℕ) → run_moved d (length bytes) 0 0 bytes ≡ slid d bytes
unfolding placed slid
run_all d bytes =
    build_same (length bytes) _ _
    (λ i l. placed_inside (length bytes) 0 (moved d (length bytes) (line_from 0 bytes)) bytes i i (omega arith) l ∙ moved_ext d (length bytes) (line_from 0 bytes) (line_of bytes) i (λ x _. ap (line_of bytes) (omega arith)))
