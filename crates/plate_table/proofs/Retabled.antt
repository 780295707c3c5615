-- Laws of a table written anew: entry by entry from the front, then the new entry, then the header.
use mathlib.Core.Path.{◌≡◌, refl, ◌∙◌, sym, ap}
use mathlib.Core.List.{List, ◌++◌}
use Prim.Native.Nat.{ℕ, zero, suc, ◌+◌, ◌*◌, ◌<◌, ◌≤◌}
use native.Mathlib.Nat.{mul-le-mul_right, add-mul, one-mul}
use native.Mathlib.Numerals.{add-one}
use native.Mathlib.Omega.{arith}
use lib.ListN.{length}
use borrow.Author.Tests.{lt-ltb, le-ltb}
use Rattle.picture.specs.Planes.{laid}
use Rattle.plate_numbers.specs.Numbers.{version, count, entry_size}
use Rattle.plate_format.specs.Format.{entry_at, entry_of}
use Rattle.plate_format.specs.Needs.{Tabled}
use Rattle.plate_written.specs.Written.{header_bytes, entry_bytes, table_of}
use Rattle.plate_format.specs.declared.Entry.{Entry}
use Rattle.plate_format.proofs.Table.{same_u16, entry_same}
use Rattle.plate_written.proofs.Written.{length_header, length_table}
use Rattle.plate_table.specs.Table.{further, entry_after, head_after}
use Rattle.plate_table.specs.Steps.{laid_at, Retabling}
use Rattle.plate_table.proofs.Laid.{laid_first, laid_none, laid_length, laid_below, laid_above, laid_next, laid_ahead}

-- one table, entry by entry
pub table_same : (v : ℕ) (f g : ℕ → Entry) (n : ℕ) → ((i : ℕ) → i < n → f i ≡ g i) → table_of v f n ≡ table_of v g n
unfolding table_of
table_same v f g zero h = refl
table_same v f g (suc n) h = rw (table_same v f g n (λ i l. h i (omega arith)), h n (omega arith))

module _ (old : List ℕ) (ready : Retabling old) where
  -- the old entries, their bodies further on
  abbrev pub moved : ℕ → Entry
  moved i = further (entry_size (version old)) (entry_of old i)

  -- none of them is written
  pub none_yet : old ≡ laid_at 4 (table_of (version old) moved 0) old
  unfolding table_of
  none_yet = laid_none 4 old

  -- the first i of them are written
  module _ (i : ℕ) (l : i ≤ count old) where
    long : length (table_of (version old) moved i) ≡ i * entry_size (version old)
    long = length_table (version old) moved i

    pub inside : 4 + length (table_of (version old) moved i) ≤ length old
    inside = omega (arith, long, mul-le-mul_right {m = i} {n = count old} (entry_size (version old)) l, ready.tabled.inside)

    module _ (now : List ℕ) (is : now ≡ laid_at 4 (table_of (version old) moved i) old) where
      pub now_long : length now ≡ length old
      now_long = rw is (laid_length 4 (table_of (version old) moved i) old inside)

      pub now_version : version now ≡ version old
      now_version = rw is (same_u16 _ old 0 4 (λ k _ m. laid_below 4 (table_of (version old) moved i) old inside k m) 0 (omega arith) (omega arith))

      pub now_count : count now ≡ count old
      now_count = rw is (same_u16 _ old 0 4 (λ k _ m. laid_below 4 (table_of (version old) moved i) old inside k m) 2 (omega arith) (omega arith))

      pub now_tabled : Tabled now
      now_tabled = record { few = omega (arith, now_count, ready.tabled.few); inside = rw (now_count, now_version, now_long) ready.tabled.inside }

      -- entry i is still the old one
      pub now_entry : i < count old → entry_of now i ≡ entry_of old i
      now_entry m =
          entry_same now old (entry_at old i) (entry_at old (i + 1)) (λ k a b. rw is (laid_above 4 (table_of (version old) moved i) old inside k (omega (arith, long)))) now_version i (omega arith) (omega (arith, add-mul i 1 (entry_size (version old)), one-mul (entry_size (version old))))

      -- .. and once it is written too, i + 1 are
      pub now_more : i < count old → (new : List ℕ) →
          new ≡ laid_at (entry_at now i) (entry_bytes (version now) (further (entry_size (version now)) (entry_of now i))) now →
          new ≡ laid_at 4 (table_of (version old) moved (i + 1)) old
      unfolding table_of
      now_more m new e =
          e
          ∙ rw (now_version, now_entry m, add-one)
          (ap (laid_at (entry_at old i) (entry_bytes (version old) (moved i))) is
          ∙ laid_next 4 (table_of (version old) moved i) old (entry_bytes (version old) (moved i)) (entry_at old i) (omega (arith, long)) inside)

  -- the new entry comes after all old ones
  table_after : (new : Entry) → table_of (version old) moved (count old) ++ entry_bytes (version old) new ≡ table_of (version old) (entry_after old new) (count old + 1)
  unfolding table_of entry_after
  table_after new =
      rw (add-one, le-ltb (count old) (count old) (omega arith))
      (ap (λ (t : List ℕ). t ++ entry_bytes (version old) new) (table_same (version old) moved (entry_after old new) (count old) (λ i l. rw (lt-ltb i (count old) l))))

  -- the whole table, the new entry, and the header before them
  pub retabled : (new : Entry) (shifted put headed : List ℕ) →
      shifted ≡ laid_at 4 (table_of (version old) moved (count old)) old →
      put ≡ laid_at (entry_at old (count old)) (entry_bytes (version old) new) shifted →
      headed ≡ laid (header_bytes (version old) (count old + 1)) put →
      headed ≡ laid (head_after old new) old
  retabled new shifted put headed s p h =
      h
      ∙ sym (laid_first (header_bytes (version old) (count old + 1)) put)
      ∙ ap (laid_at 0 (header_bytes (version old) (count old + 1))) (p ∙ ap (laid_at (entry_at old (count old)) (entry_bytes (version old) new)) s ∙ joined)
      ∙ laid_ahead 0 (header_bytes (version old) (count old + 1)) old (table_of (version old) (entry_after old new) (count old + 1)) 4 (omega (arith, length_header (version old) (count old + 1))) (omega (arith, length_header (version old) (count old + 1), ready.tabled.inside))
      ∙ laid_first (head_after old new) old
    where
      joined : laid_at (entry_at old (count old)) (entry_bytes (version old) new) (laid_at 4 (table_of (version old) moved (count old)) old) ≡ laid_at 4 (table_of (version old) (entry_after old new) (count old + 1)) old
      joined =
          laid_next 4 (table_of (version old) moved (count old)) old (entry_bytes (version old) new) (entry_at old (count old)) (omega (arith, long (count old) (omega arith))) (inside (count old) (omega arith))
          ∙ ap (λ (t : List ℕ). laid_at 4 t old) (table_after new)
