-- A part of a slice: which memory it is, and what it holds.
use Rattle.std.specs.Prelude.{List, ℕ}
use Rattle.std.specs.Borrow.{Bor}

-- the block of memory that the part lies in, where it starts there, and its bytes
pub record SlicePart : Type 0 where
  pub block : ℕ
  pub start : ℕ
  pub bytes : List ℕ

-- the part that a reference is: all of it but its ghost name, which no program sees
abbrev pub slice_part : Bor (List ℕ) → SlicePart
slice_part s = record { block = s.ref_ptr.0; start = s.ref_ptr.1; bytes = s.now }
