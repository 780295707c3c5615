-- The columns in which x - d does not lie inside the row: the first, the last or none.
use mathlib.Core.Path.{◌≡◌, refl, sym}
use mathlib.Core.List.{List}
use Prim.Native.Nat.{ℕ, ◌+◌, ◌-◌, ◌%◌, ◌<◌}
use native.Mathlib.Nat.{mod-lt}
use native.Mathlib.Omega.{arith}
use lib.ListN.{length}
use Rattle.picture.proofs.Build.{build_ext}
use Rattle.binary32.specs.declared.Offset.{Offset}
use Rattle.shift.specs.Bytes.{columns_zeroed, inside_kept}
use Rattle.shift.proofs.Moved.{from_inside, moved_is}
use Rattle.picture.proofs.Build.{build_same}
use Rattle.shift.proofs.Zeroed.{blank_before, blank_inside, blank_past}

module _ (d : Offset) (w : ℕ) (bytes : List ℕ) (l : d.plus + d.minus < w) where
  -- byte i stands in one of the columns
  column : (i : ℕ) → i % w < w
  column i = mod-lt i (omega arith)

  pub first_columns : d.minus ≡ 0 → columns_zeroed w 0 d.plus bytes ≡ inside_kept d w bytes
  unfolding columns_zeroed inside_kept
  first_columns e =
      build_same (length bytes) _ _
      (λ i _.
      let x = i % w in
      moved_is d w _ x _
      (λ m. blank_inside 0 d.plus x _ (omega arith) (omega arith))
      (λ k f m. blank_past 0 d.plus x _ (omega arith))
      (λ m. absurd (omega (arith, column i))))

  pub last_columns : d.plus ≡ 0 → columns_zeroed w (w - d.minus) d.minus bytes ≡ inside_kept d w bytes
  unfolding columns_zeroed inside_kept
  last_columns e =
      build_same (length bytes) _ _
      (λ i _.
      let x = i % w in
      moved_is d w _ x _
      (λ m. absurd (omega arith))
      (λ k f m. blank_before (w - d.minus) d.minus x _ (omega arith))
      (λ m. blank_inside (w - d.minus) d.minus x _ (omega arith) (omega (arith, column i))))

  pub no_columns : d.plus ≡ 0 → d.minus ≡ 0 → bytes ≡ inside_kept d w bytes
  unfolding inside_kept
  no_columns e f =
      build_ext (length bytes) _ bytes refl (λ i _. sym (from_inside d w _ (i % w) (i % w) (omega arith) (column i)))
