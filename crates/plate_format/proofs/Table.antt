-- Laws of the table: an entry holds its fields, and it lies within the table.
use mathlib.Core.Path.{◌≡◌, refl}
use mathlib.Core.Bool.{Bool, true, false, cond}
use mathlib.Core.List.{List}
use Prim.Native.Nat.{ℕ, ◌+◌, ◌-◌, ◌<◌, ◌≤◌}
use native.Mathlib.Omega.{arith}
use lib.ListN.{get_or}
use Rattle.picture.proofs.Planes.{pixel_fits}
use Rattle.plate_numbers.specs.Numbers.{u16_at, u32_at, version, count, labelled, entry_size}
use Rattle.plate_numbers.proofs.Versions.{with_label, entry_room}
use Rattle.plate_format.specs.Format.{entry_at, label_at, entry_of}

-- entry i of n ends where they all do, at the latest
pub entry_inside : (file : List ℕ) (i n : ℕ) → i < n → entry_at file i + entry_size (version file) ≤ entry_at file n
entry_inside file i n l =
    let s = entry_size (version file) in
    let room = entry_room (version file) in
    omega (arith, pixel_fits s n (s - 1) i (omega arith) l)

-- bytes that agree from a to b have the same numbers there
module _ (xs ys : List ℕ) (a b : ℕ) (same : (k : ℕ) → a ≤ k → k < b → get_or xs k 0 ≡ get_or ys k 0) where
  pub same_u16 : (at : ℕ) → a ≤ at → at + 1 < b → u16_at xs at ≡ u16_at ys at
  unfolding u16_at
  same_u16 at l m = rw (same at l (omega arith), same (at + 1) (omega arith) m)

  same_u32 : (at : ℕ) → a ≤ at → at + 3 < b → u32_at xs at ≡ u32_at ys at
  unfolding u32_at
  same_u32 at l m = rw (same_u16 at l (omega arith), same_u16 (at + 2) (omega arith) (omega arith))

  same_label : (v at : ℕ) → a ≤ at → (labelled v ≡ true → at + 1 < b) → label_at v xs at ≡ label_at v ys at
  unfolding label_at
  same_label v at l m = by (labelled v) refl
    where
      by : (t : Bool) → labelled v ≡ t → cond t (u16_at xs at) 0 ≡ cond t (u16_at ys at) 0
      by true e = same_u16 at l (m e)
      by false e = refl

  -- an entry of one version whose bytes lie there
  pub entry_same : version xs ≡ version ys → (i : ℕ) → a ≤ entry_at ys i → entry_at ys i + entry_size (version ys) ≤ b → entry_of xs i ≡ entry_of ys i
  unfolding entry_of
  entry_same v i l m =
      let room = entry_room (version ys) in
      let label : (k : ℕ) → k ≤ 14 → labelled (version ys) ≡ true → entry_at ys i + k + 1 < b = λ k few e. omega (arith, with_label (version ys) e) in
      rw (v, same_u16 (entry_at ys i) l (omega arith), same_u16 (entry_at ys i + 2) (omega arith) (omega arith), same_u32 (entry_at ys i + 4) (omega arith) (omega arith), same_u32 (entry_at ys i + 8) (omega arith) (omega arith), same_label (version ys) (entry_at ys i + 12) (omega arith) (label 12 (omega arith)), same_label (version ys) (entry_at ys i + 14) (omega arith) (label 14 (omega arith)))

-- bytes that agree up to the table's end have one table
module _ (a b : List ℕ) (n : ℕ) (same : (k : ℕ) → k < n → get_or a k 0 ≡ get_or b k 0) (table : entry_at b (count b) ≤ n) where
  first : (at : ℕ) → at + 1 < n → u16_at a at ≡ u16_at b at
  first at l = same_u16 a b 0 n (λ k _ m. same k m) at (omega arith) l

  pub same_version : version a ≡ version b
  same_version = first 0 (omega arith)

  pub same_count : count a ≡ count b
  same_count = first 2 (omega arith)

  pub same_entry_at : (i : ℕ) → entry_at a i ≡ entry_at b i
  same_entry_at i = rw same_version

  pub same_entry : (i : ℕ) → i < count b → entry_of a i ≡ entry_of b i
  same_entry i l = entry_same a b 0 n (λ k _ m. same k m) same_version i (omega arith) (omega (arith, entry_inside b i (count b) l))
