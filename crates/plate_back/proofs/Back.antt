-- What is read of a plate with one picture more: its rules, and each of its pictures.
use mathlib.Core.Path.{◌≡◌, refl, ◌∙◌, sym, ap}
use mathlib.Core.Bool.{Bool, true, false}
use mathlib.Core.List.{List, ◌++◌}
use mathlib.Core.Logic.{⊎_elim}
use Prim.Native.Nat.{ℕ, zero, suc, ◌+◌, ◌-◌, ◌<◌, ◌≤◌}
use native.Mathlib.Nat.{eq-or-lt_of_le, add-mul, one-mul}
use native.Mathlib.Numerals.{add-one}
use native.Mathlib.Omega.{arith}
use lib.ListN.{length, take, drop, length-append, length-drop}
use lib.Seq.{take-append-le, drop-append-le, drop-append-add, drop-drop, drop-length, take-length}
use borrow.Author.Tests.{lt-ltb, le-ltb, le-leb, eq-eqb}
use Rattle.picture.specs.Planes.{bytes_of}
use Rattle.picture.specs.Refusal.{wrong_sides, wrong_length}
use Rattle.plate_numbers.specs.Numbers.{version, count, labelled, entry_size, largest_whole, wrong_unit}
use Rattle.plate_format.specs.Format.{max_count, label_at, entry_of, body_offset, wrong_sides_of, obeys, entry_obeys, all_below, filled, is_plate_to, is_plate}
use Rattle.plate_format.specs.declared.Entry.{Entry}
use Rattle.plate_format.proofs.Rules.{rules, wide_is_long, offset_up, plate_entry}
use Rattle.plate_written.proofs.Written.{Apt, version_read, count_read, entry_read}
use Rattle.plate.specs.Lookup.{Beside}
use Rattle.plate_table.specs.Table.{head_after, further, entry_after}
use Rattle.plate_room.specs.Room.{given, new_entry, length_after}
use Rattle.plate_write.specs.Added.{added}
use Rattle.plate_write.proofs.Head.{head_long, added_is}

-- a test that holds at each number below n
all_below_lem : (f : ℕ → Bool) (n : ℕ) → ((i : ℕ) → i < n → f i ≡ true) → all_below n f ≡ true
unfolding all_below
all_below_lem f zero h = refl
all_below_lem f (suc n) h = rw (all_below_lem f n (λ i l. h i (omega arith)), h n (omega arith))

-- what an entry obeys, from its parts
obeyed : (v start : ℕ) (e : Entry) → wrong_sides_of v e.width e.height ≡ false → e.length ≡ bytes_of e.width e.height → wrong_unit v e.unit ≡ false → e.offset ≡ start → obeys v start e ≡ true
unfolding obeys wrong_length
obeyed v start e s l u o = rw (s, eq-eqb e.length (bytes_of e.width e.height) l, u, eq-eqb e.offset start o)

-- a label that is given has 0 where the version has none, and its unit is as right as the one given
given_none : (v n : ℕ) → labelled v ≡ false → given v n ≡ 0
unfolding given
given_none v n t = rw t

given_named : (v unit : ℕ) → wrong_unit v unit ≡ false → wrong_unit v (given v unit) ≡ false
unfolding wrong_unit given
given_named v unit e = by (labelled v) refl
  where
    by : (b : Bool) → labelled v ≡ b → wrong_unit v (given v unit) ≡ false
    by true t = rw t (rw t at e)
    by false t = rw t

-- a plate, and a picture that has room in it
pub record Addable (file : List ℕ) (w h : ℕ) (label : Beside) (picture : List ℕ) : Type 0 where
  pub plate : is_plate file ≡ true
  pub named : wrong_unit (version file) label.unit ≡ false
  pub sides : wrong_sides w h ≡ false
  pub exact : length picture ≡ bytes_of w h
  pub few : count file < max_count
  pub whole : length_after file w h ≤ largest_whole (version file)

module _ {file : List ℕ} {w h : ℕ} {label : Beside} {picture : List ℕ} (ok : Addable file w h label picture) where
  abbrev A : List ℕ
  A = added file w h label picture

  abbrev size : ℕ
  size = entry_size (version file)

  abbrev new : Entry
  new = new_entry file w h label

  abbrev after : ℕ → Entry
  after = entry_after file new

  fits : length file + size + bytes_of w h ≤ largest_whole (version file)
  unfolding length_after
  fits = ok.whole

  pub last : body_offset file (count file) ≡ length file
  last = sym (rules file ok.plate).bodies.exact

  -- the new table's entries
  old_entry : (i : ℕ) → i < count file → after i ≡ further size (entry_of file i)
  unfolding entry_after
  old_entry i l = rw (lt-ltb i (count file) l)

  new_entry_lem : after (count file) ≡ new
  unfolding entry_after
  new_entry_lem = rw (le-ltb (count file) (count file) (omega arith))

  by_index : (i : ℕ) → i < count file + 1 → (P : ℕ → Type 0) → ((k : ℕ) → k < count file → P k) → P (count file) → P i
  by_index i l P old newest = ⊎_elim (λ (e : i ≡ count file). rw e newest) (λ lt. old i lt) (eq-or-lt_of_le (omega arith))

  -- the old entries were read, so that version 1 has no label in them
  old_none : (i : ℕ) → Apt (version file) (entry_of file i)
  unfolding entry_of label_at
  old_none i t = rw t (refl, refl)

  apt : (i : ℕ) → i < count file + 1 → Apt (version file) (after i)
  apt i l =
      by_index i l (λ k. Apt (version file) (after k)) (λ k lk. rw (old_entry k lk) (old_none k))
      (rw new_entry_lem (λ t. (given_none (version file) label.unit t, given_none (version file) label.sheet t)))

  -- what is read of the new plate
  pub version_kept : version A ≡ version file
  unfolding added
  version_kept = version_read (version file) (count file + 1) after _

  pub count_more : count A ≡ count file + 1
  unfolding added
  count_more = count_read (version file) (count file + 1) after _

  entry_is : (i : ℕ) → i < count file + 1 → entry_of A i ≡ after i
  unfolding added
  entry_is i l = entry_read (version file) (count file + 1) after _ i l (apt i l)

  pub old_entry_is : (i : ℕ) → i < count file → entry_of A i ≡ further size (entry_of file i)
  old_entry_is i l = entry_is i (omega arith) ∙ old_entry i l

  pub new_entry_is : entry_of A (count file) ≡ new
  new_entry_is = entry_is (count file) (omega arith) ∙ new_entry_lem

  -- the bodies, shifted by one table entry
  pub offset_is : (i : ℕ) → i ≤ count file → body_offset A i ≡ body_offset file i + size
  unfolding body_offset
  offset_is zero l = rw (count_more, version_kept) (omega (arith, add-mul (count file) 1 size, one-mul size))
  offset_is (suc i) l = rw (old_entry_is i l) (omega (arith, offset_is i (omega arith)))

  offset_last : body_offset A (count file + 1) ≡ length file + size + bytes_of w h
  unfolding body_offset
  offset_last = rw (add-one, new_entry_is) (omega (arith, offset_is (count file) (omega arith), last))

  -- the bytes: a table one entry longer, the bodies, the picture
  front : List ℕ
  front = head_after file new

  length_front : length front ≡ body_offset file 0 + size
  unfolding front
  length_front = head_long file new

  bytes_are : A ≡ front ++ (drop (body_offset file 0) file ++ picture)
  unfolding front
  bytes_are = added_is file w h label picture

  inside : (i : ℕ) → i ≤ count file → (body_offset file 0 ≤ body_offset file i) × (body_offset file i ≤ length file)
  inside i l = (offset_up file {i = 0} {n = i} (omega arith), omega (arith, offset_up file l, last))

  length_is : length A ≡ length file + size + bytes_of w h
  length_is = rw bytes_are (simp (length-append, length-drop) (omega (arith, length_front, inside 0 (omega arith), ok.exact)))

  pub length_added : length A ≡ length_after file w h
  unfolding length_after
  length_added = length_is

  -- from body i on: the old bytes, and then the picture
  rest : (i : ℕ) → i ≤ count file → drop (body_offset A i) A ≡ drop (body_offset file i) file ++ picture
  rest i l =
      let b = inside i l in
      let gap : ℕ = body_offset file i - body_offset file 0 in
      let e : body_offset A i ≡ length front + gap = omega (arith, offset_is i l, length_front) in
      let f : body_offset file 0 + gap ≡ body_offset file i = omega arith in
      rw (e, bytes_are)
      (drop-append-add front (drop (body_offset file 0) file ++ picture) gap
      ∙ drop-append-le gap (drop (body_offset file 0) file) picture (simp length-drop (omega arith))
      ∙ ap (λ (t : List ℕ). t ++ picture) (drop-drop gap (body_offset file 0) file ∙ ap (λ (k : ℕ). drop k file) f))

  -- the old bodies, and then the new one
  pub old_body : (i : ℕ) → i < count file → take (entry_of A i).length (drop (body_offset A i) A) ≡ take (entry_of file i).length (drop (body_offset file i) file)
  old_body i l =
      rw (old_entry_is i l, rest i (omega arith))
      (take-append-le (entry_of file i).length (drop (body_offset file i) file) picture (simp length-drop (omega (arith, (plate_entry file ok.plate i l).ends))))

  pub new_body : take (entry_of A (count file)).length (drop (body_offset A (count file)) A) ≡ picture
  new_body = rw (new_entry_is, rest (count file) (omega arith), last, drop-length file, ← ok.exact) (take-length picture)

  -- and it is a plate
  each : (i : ℕ) → i < count file + 1 → entry_obeys A i ≡ true
  each i l =
      by_index i l (λ k. entry_obeys A k ≡ true)
      (λ k lk.
      let o = plate_entry file ok.plate k lk in
      rw (old_entry_is k lk, offset_is k (omega arith))
      (obeyed (version A) (body_offset file k + size) (further size (entry_of file k)) (rw version_kept o.bounded) o.long (rw version_kept o.named) (ap (λ (x : ℕ). x + size) o.starts)))
      (rw (new_entry_is, offset_is (count file) (omega arith)) (obeyed (version A) (body_offset file (count file) + size) new (rw version_kept (wide_is_long (version file) w h ok.sides (omega (arith, fits)))) refl (rw version_kept (given_named (version file) label.unit ok.named)) (rw last)))

  pub still : is_plate A ≡ true
  unfolding is_plate_to filled
  still =
      rw (
        version_kept,
        (rules file ok.plate).version_is,
        count_more,
        le-leb (count file + 1) max_count (omega (arith, ok.few)),
        all_below_lem (entry_obeys A) (count file + 1) each,
        offset_last,
        length_is,
        eq-eqb (length file + size + bytes_of w h) (length file + size + bytes_of w h) refl,
        le-leb (length file + size + bytes_of w h) (largest_whole (version file)) fits,
      )
