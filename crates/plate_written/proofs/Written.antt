-- What is read of a plate that was written: its version, its count and each entry.
use mathlib.Core.Path.{◌≡◌, refl, ◌∙◌, sym, ap}
use mathlib.Core.Bool.{Bool, true, false, cond}
use mathlib.Core.List.{List, [], ◌++◌, append_assoc}
use mathlib.Core.Logic.{⊎_elim}
use Prim.Native.Nat.{ℕ, zero, suc, ◌+◌, ◌*◌, ◌<◌}
use native.Mathlib.Nat.{eq-or-lt_of_le}
use native.Mathlib.Omega.{arith}
use lib.ListN.{length, get_or, length-append}
use lib.Seq.{get_or-append-add}
use Rattle.plate_numbers.specs.Numbers.{u16_at, u32_at, version, count, labelled, entry_size}
use Rattle.plate_format.specs.Format.{label_at, entry_of}
use Rattle.plate_written.specs.Written.{bytes16, bytes32, header_bytes, label_bytes, entry_bytes, table_of, plate_of}
use Rattle.plate_format.specs.declared.Entry.{Entry}

-- an entry without a label has 0 for it where its version has none
abbrev pub Apt : ℕ → Entry → Type 0
Apt v e = labelled v ≡ false → (e.unit ≡ 0) × (e.sheet ≡ 0)

-- a number past the first bytes is a number of the rest
module _ (xs ys : List ℕ) (n k at : ℕ) (long : length xs ≡ n) (e : k ≡ n + at) where
  byte : (j : ℕ) → get_or (xs ++ ys) (k + j) 0 ≡ get_or ys (at + j) 0
  byte j = let a : k + j ≡ length xs + (at + j) = omega arith in rw a (get_or-append-add xs ys (at + j) 0)

  u16_past : u16_at (xs ++ ys) k ≡ u16_at ys at
  unfolding u16_at
  u16_past =
      let a : k ≡ k + 0 = omega arith in
      let b : at + 0 ≡ at = omega arith in
      rw (byte 1) (ap (λ (x : ℕ). x + 256 * get_or ys (at + 1) 0) (ap (λ (x : ℕ). get_or (xs ++ ys) x 0) a ∙ byte 0 ∙ ap (λ (x : ℕ). get_or ys x 0) b))

u32_past : (xs ys : List ℕ) (n k at : ℕ) → length xs ≡ n → k ≡ n + at → u32_at (xs ++ ys) k ≡ u32_at ys at
unfolding u32_at
u32_past xs ys n k at l e = rw (u16_past xs ys n k at l e, u16_past xs ys n (k + 2) (at + 2) l (omega arith))

label_past : (v : ℕ) (xs ys : List ℕ) (n k at : ℕ) → length xs ≡ n → k ≡ n + at → label_at v (xs ++ ys) k ≡ label_at v ys at
unfolding label_at
label_past v xs ys n k at l e = rw (u16_past xs ys n k at l e)

-- an entry that stands first
module _ (v : ℕ) (e : Entry) (ys : List ℕ) (apt : Apt v e) where
  width_first : u16_at (entry_bytes v e ++ ys) 0 ≡ e.width
  unfolding entry_bytes bytes32 bytes16 u16_at
  width_first = omega arith

  height_first : u16_at (entry_bytes v e ++ ys) 2 ≡ e.height
  unfolding entry_bytes bytes32 bytes16 u16_at
  height_first = omega arith

  offset_first : u32_at (entry_bytes v e ++ ys) 4 ≡ e.offset
  unfolding entry_bytes bytes32 bytes16 u32_at u16_at
  offset_first = omega arith

  length_first : u32_at (entry_bytes v e ++ ys) 8 ≡ e.length
  unfolding entry_bytes bytes32 bytes16 u32_at u16_at
  length_first = omega arith

  -- a field of the label: as it was written, or 0
  label_first : (at field : ℕ) → (labelled v ≡ true → u16_at (entry_bytes v e ++ ys) at ≡ field) → (labelled v ≡ false → field ≡ 0) → label_at v (entry_bytes v e ++ ys) at ≡ field
  unfolding label_at
  label_first at field written none = by (labelled v) refl
    where
      by : (b : Bool) → labelled v ≡ b → cond b (u16_at (entry_bytes v e ++ ys) at) 0 ≡ field
      by true t = written t
      by false t = sym (none t)

  unit_first : label_at v (entry_bytes v e ++ ys) 12 ≡ e.unit
  unfolding entry_bytes label_bytes bytes32 bytes16 u16_at
  unit_first = label_first 12 e.unit (λ t. rw t (omega arith)) (λ t. (apt t).0)

  sheet_first : label_at v (entry_bytes v e ++ ys) 14 ≡ e.sheet
  unfolding entry_bytes label_bytes bytes32 bytes16 u16_at
  sheet_first = label_first 14 e.sheet (λ t. rw t (omega arith)) (λ t. (apt t).1)

-- a label's bytes, where the version has one and where it has none
pub label_there : (v unit sheet : ℕ) → labelled v ≡ true → label_bytes v unit sheet ≡ bytes16 unit ++ bytes16 sheet
unfolding label_bytes
label_there v unit sheet t = rw t

pub label_none : (v unit sheet : ℕ) → labelled v ≡ false → label_bytes v unit sheet ≡ []
unfolding label_bytes
label_none v unit sheet t = rw t

pub length_label : (v unit sheet : ℕ) → 12 + length (label_bytes v unit sheet) ≡ entry_size v
unfolding label_bytes bytes16 entry_size
length_label v unit sheet = by (labelled v)
  where
    by : (b : Bool) → 12 + length (cond b (bytes16 unit ++ bytes16 sheet) []) ≡ cond b 16 12
    by true = refl
    by false = refl

pub length_header : (v n : ℕ) → length (header_bytes v n) ≡ 4
unfolding header_bytes bytes16
length_header v n = refl

pub length_entry : (v : ℕ) (e : Entry) → length (entry_bytes v e) ≡ entry_size v
unfolding entry_bytes bytes32 bytes16
length_entry v e = omega (arith, length_label v e.unit e.sheet)

pub length_table : (v : ℕ) (f : ℕ → Entry) (n : ℕ) → length (table_of v f n) ≡ n * entry_size v
unfolding table_of
length_table v f zero = omega arith
length_table v f (suc n) = simp (length-append, length_entry) (omega (arith, length_table v f n))

-- the table, cut before entry i
record Cut (v : ℕ) (f : ℕ → Entry) (i : ℕ) (all : List ℕ) : Type 0 where
  rest : List ℕ
  is : all ≡ table_of v f i ++ (entry_bytes v (f i) ++ rest)

cut : (v : ℕ) (f : ℕ → Entry) (n i : ℕ) (tail : List ℕ) → i < n → Cut v f i (table_of v f n ++ tail)
unfolding table_of
cut v f zero i tail l = absurd (omega arith)
cut v f (suc n) i tail l =
    let again : (table_of v f n ++ entry_bytes v (f n)) ++ tail ≡ table_of v f n ++ (entry_bytes v (f n) ++ tail) = append_assoc (table_of v f n) (entry_bytes v (f n)) tail in
    ⊎_elim
    (λ (e : i ≡ n). record { rest = tail; is = rw (e, again) })
    (λ lt. let c = cut v f n i (entry_bytes v (f n) ++ tail) lt in record { rest = c.rest; is = again ∙ c.is })
    (eq-or-lt_of_le (omega arith))

module _ (v n : ℕ) (f : ℕ → Entry) (bodies : List ℕ) where
  pub version_read : version (plate_of v n f bodies) ≡ v
  unfolding plate_of header_bytes bytes16 u16_at
  version_read = omega arith

  pub count_read : count (plate_of v n f bodies) ≡ n
  unfolding plate_of header_bytes bytes16 u16_at
  count_read = omega arith

  module _ (i : ℕ) (l : i < n) where
    before : List ℕ
    before = header_bytes v n ++ table_of v f i

    length_before : length before ≡ 4 + i * entry_size v
    unfolding before
    length_before = simp length-append (omega (arith, length_header v n, length_table v f i))

    cut_plate : plate_of v n f bodies ≡ before ++ (entry_bytes v (f i) ++ (cut v f n i bodies l).rest)
    unfolding plate_of before
    cut_plate =
        ap (λ (t : List ℕ). header_bytes v n ++ t) (cut v f n i bodies l).is ∙ sym (append_assoc (header_bytes v n) (table_of v f i) (entry_bytes v (f i) ++ (cut v f n i bodies l).rest))

    pub entry_read : Apt v (f i) → entry_of (plate_of v n f bodies) i ≡ f i
    unfolding entry_of
    entry_read apt =
        let rest = (cut v f n i bodies l).rest in
        let ys = entry_bytes v (f i) ++ rest in
        let at : ℕ = 4 + i * entry_size v in
        rw (version_read, cut_plate)
        (rw (
          u16_past before ys at at 0 length_before (omega arith),
          u16_past before ys at (at + 2) 2 length_before (omega arith),
          u32_past before ys at (at + 4) 4 length_before (omega arith),
          u32_past before ys at (at + 8) 8 length_before (omega arith),
          label_past v before ys at (at + 12) 12 length_before (omega arith),
          label_past v before ys at (at + 14) 14 length_before (omega arith),
          width_first v (f i) rest apt,
          height_first v (f i) rest apt,
          offset_first v (f i) rest apt,
          length_first v (f i) rest apt,
          unit_first v (f i) rest apt,
          sheet_first v (f i) rest apt,
        ))
