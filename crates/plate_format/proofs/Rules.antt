-- Laws of the plate rules: what each says of a plate.
use mathlib.Core.Path.{◌≡◌}
use mathlib.Core.Bool.{Bool, true, false, cond, and-true}
use mathlib.Core.Logic.{◌⊎◌, inl, inr, ⊎_elim}
use mathlib.Core.List.{List}
use Prim.Native.Nat.{ℕ, ◌+◌, ◌*◌, ◌<◌, ◌≤◌}
use native.Mathlib.Decide.{le_ind}
use native.Mathlib.Nat.{mul-le-mul}
use native.Mathlib.Omega.{arith}
use lib.ListN.{length}
use borrow.Author.Tests.{leb-true, le-leb, eqb-true, not-true, not-false}
use Rattle.picture.specs.Planes.{bytes_of}
use Rattle.picture.specs.Sizes.{max_side}
use Rattle.picture.specs.Refusal.{wrong_sides, wrong_length}
use Rattle.picture.proofs.Conditions.{Counted, sides_inside, right_sides}
use Rattle.plate_numbers.specs.Numbers.{version, count, known, larger, largest_side, largest_whole, wrong_unit}
use Rattle.plate_format.specs.Format.{max_count, entry_at, entry_of, body_offset, wrong_sides_of, obeys, entry_obeys, filled, is_plate_to, is_plate}
use Rattle.plate_format.specs.Needs.{Tabled}
use Rattle.plate_format.proofs.Tests.{both, all_at}

-- a version's largest side is refusal 1's, or one that makes more bytes than its plates have
side_of : (v : ℕ) → (largest_side v ≤ max_side) × ((max_side ≤ largest_side v) ⊎ (largest_whole v ≤ 4 * largest_side v))
unfolding largest_side largest_whole max_side
side_of v = by (larger v)
  where
    by : (b : Bool) → (cond b 16384 4096 ≤ 16384) × ((16384 ≤ cond b 16384 4096) ⊎ (cond b 16777216 16384 ≤ 4 * cond b 16384 4096))
    by true = (omega arith, inl (omega arith))
    by false = (omega arith, inr (omega arith))

-- sides that a version lets through pass check 1
pub sides_of : (v w h : ℕ) → wrong_sides_of v w h ≡ false → wrong_sides w h ≡ false
unfolding wrong_sides_of
sides_of v w h o = let s = (sides_inside (largest_side v) w h).0 o in (right_sides w h).1 (lower s.0, lower s.1)
  where
    lower : {s : ℕ} → Counted (largest_side v) s → Counted max_side s
    lower c = record { low = c.low; high = omega (arith, c.high, (side_of v).0) }

-- a side above a version's largest makes more bytes than its plates have: a version lets through sides that pass check 1, of a body that its plates have room for
pub wide_is_long : (v w h : ℕ) → wrong_sides w h ≡ false → bytes_of w h ≤ largest_whole v → wrong_sides_of v w h ≡ false
unfolding wrong_sides_of
wide_is_long v w h o l =
    let s = (right_sides w h).0 o in
    let m = largest_side v in
    let wide = mul-le-mul {n₁ = w} {m₁ = 1} {n₂ = w} {m₂ = h} (omega arith) s.1.low in
    let high = mul-le-mul {n₁ = 1} {m₁ = h} {n₂ = w} {m₂ = h} s.0.low (omega arith) in
    let below : (w ≤ m) × (h ≤ m) =
    ⊎_elim (λ (r : max_side ≤ m). (omega (arith, s.0.high), omega (arith, s.1.high)))
    (λ (r : largest_whole v ≤ 4 * m). (omega (arith, wide), omega (arith, high))) (side_of v).1 in
    (sides_inside m w h).1 (record { low = s.0.low; high = below.0 }, record { low = s.1.low; high = below.1 })

-- a body starts where an earlier one does, at the earliest
pub offset_up : (file : List ℕ) {i n : ℕ} → i ≤ n → body_offset file i ≤ body_offset file n
unfolding body_offset
offset_up file {i} {n} l = le_ind (λ k. body_offset file i ≤ body_offset file k) (omega arith) (λ k _ h. omega arith) n l

module _ (file : List ℕ) where
  pub record Filled : Type 0 where
    pub obeyed : (i : ℕ) → i < count file → entry_obeys file i ≡ true
    pub exact : length file ≡ body_offset file (count file)

  pub filled_is : filled file ≡ true → Filled
  unfolding filled
  filled_is h =
      let b = both _ _ h in
      record { obeyed = λ i l. all_at (entry_obeys file) (count file) i l b.0; exact = eqb-true _ _ b.1 }

  -- what a plate obeys
  pub record Rules : Type 0 where
    pub version_is : known (version file) ≡ true
    pub few : count file ≤ max_count
    pub bodies : Filled
    pub whole : length file ≤ largest_whole (version file)

  pub rules : is_plate file ≡ true → Rules
  unfolding is_plate_to
  rules h =
      let w = both _ _ h in
      let f = both _ _ w.0 in
      let n = both _ _ f.0 in
      record { version_is = n.0; few = leb-true _ _ n.1; bodies = filled_is f.1; whole = leb-true _ _ w.1 }

  -- the table of a plate is there
  pub table_inside : Rules → entry_at file (count file) ≤ length file
  unfolding body_offset
  table_inside r = omega (arith, r.bodies.exact, offset_up file {i = 0} {n = count file} (omega arith))

  -- where the other rules are obeyed, the entries and the bodies decide
  pub decides : known (version file) ≡ true → count file ≤ max_count → length file ≤ largest_whole (version file) → filled file ≡ is_plate file
  unfolding is_plate_to
  decides k f w = rw (k, le-leb (count file) max_count f, le-leb (length file) (largest_whole (version file)) w, and-true (filled file))

  -- what an entry of a plate obeys
  pub record Obeyed (i : ℕ) : Type 0 where
    pub bounded : wrong_sides_of (version file) (entry_of file i).width (entry_of file i).height ≡ false
    pub sides : wrong_sides (entry_of file i).width (entry_of file i).height ≡ false
    pub long : (entry_of file i).length ≡ bytes_of (entry_of file i).width (entry_of file i).height
    pub named : wrong_unit (version file) (entry_of file i).unit ≡ false
    pub starts : (entry_of file i).offset ≡ body_offset file i
    pub ends : body_offset file i + (entry_of file i).length ≤ length file

  module _ (plate : is_plate file ≡ true) where
    pub plate_tabled : Tabled file
    unfolding max_count
    plate_tabled = let r = rules plate in record { few = omega (arith, r.few); inside = table_inside r }

    pub plate_entry : (i : ℕ) → i < count file → Obeyed i
    unfolding obeys wrong_length body_offset
    plate_entry i l =
        let r = rules plate in
        let e = entry_of file i in
        let o = both _ _ (r.bodies.obeyed i l) in
        let u = both _ _ o.0 in
        let s = both _ _ u.0 in
        record {
          bounded = not-true _ s.0;
          sides = sides_of (version file) e.width e.height (not-true _ s.0);
          long = eqb-true _ _ (not-false _ (not-true _ s.1));
          named = not-true _ u.1;
          starts = eqb-true _ _ o.1;
          ends = omega (arith, r.bodies.exact, offset_up file l);
        }
