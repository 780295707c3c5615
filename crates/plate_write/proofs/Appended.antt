-- Laws of adding a picture: the bodies one table entry further, the table written anew before them, and the picture after them.
use mathlib.Core.Path.{◌≡◌, refl, ◌∙◌, sym, ap}
use mathlib.Core.Bool.{Bool, true, false, cond}
use mathlib.Core.List.{List, ◌++◌, append_assoc}
use Prim.Native.Nat.{ℕ, ◌+◌, ◌-◌, ◌<◌, ◌≤◌}
use native.Mathlib.Nat.{add-mul, one-mul}
use native.Mathlib.Omega.{arith}
use lib.Dec.{ltb}
use lib.ListN.{length, get_or, take, drop, length-append, length-drop}
use lib.Seq.{length-take-le, take-add, drop_at, get_or-take}
use borrow.Author.Tests.{ltb-true}
use Rattle.picture.specs.Buffers.{copied}
use Rattle.picture.specs.Planes.{bytes_of, laid}
use Rattle.picture.specs.Refusal.{wrong_sides}
use Rattle.plate_numbers.specs.Numbers.{version, count, entry_size, wrong_unit}
use Rattle.plate_format.specs.Format.{entry_at, entry_of, body_offset, max_count}
use Rattle.plate_format.specs.Needs.{Tabled}
use Rattle.plate_written.specs.Written.{header_bytes}
use Rattle.plate_format.specs.declared.Entry.{Entry}
use Rattle.plate_format.proofs.Rules.{plate_tabled, plate_entry}
use Rattle.plate_numbers.proofs.Versions.{entry_room, whole_small}
use Rattle.plate_format.proofs.Table.{same_version, same_count, same_entry}
use Rattle.plate.specs.Lookup.{Beside}
use Rattle.plate_table.specs.Table.{further, entry_after, head_after}
use Rattle.plate_table.specs.Steps.{laid_at, Retabling}
use Rattle.plate_table.proofs.Laid.{laid_first, laid_length, laid_below, laid_next, laid_ahead, laid_copied, laid_part}
use Rattle.plate_table.proofs.Retabled.{table_same}
use Rattle.plate_room.specs.Room.{new_entry, length_after, in_use}
use Rattle.plate_room.proofs.Room.{plate_small, Roomy, roomy}
use Rattle.plate_write.specs.Added.{added}
use Rattle.plate_write.specs.Steps.{Adding}
use Rattle.plate_write.proofs.Head.{first_is, head_long, added_is}

module _ {buffer : List ℕ} {used w h unit : ℕ} {picture : List ℕ} (ready : Adding buffer used w h unit picture) where
  abbrev file : List ℕ
  file = in_use buffer used

  -- one table entry, and where the bodies start
  abbrev size : ℕ
  size = entry_size (version file)

  abbrev first : ℕ
  first = body_offset file 0

  pub file_long : length file ≡ used
  file_long = length-take-le used buffer ready.inside

  pub tabled : Tabled file
  tabled = plate_tabled file ready.plate

  pub first_low : first ≤ used
  first_low = omega (arith, first_is file, tabled.inside, file_long)

  room : Roomy (length buffer) file w h
  room = roomy (length buffer) file w h ready.room

  pub fits : used + size + bytes_of w h ≤ length buffer
  unfolding length_after
  fits = omega (arith, room.fits, file_long)

  few : count file < 65535
  unfolding max_count
  few = omega (arith, room.few)

  -- what the new entry needs
  pub new_fits : (4 ≤ length file) × (wrong_sides w h ≡ false) × (length_after file w h < 4294967296) × (wrong_unit (version file) unit ≡ false)
  new_fits = (omega (arith, tabled.inside), ready.sides, omega (arith, room.whole, (whole_small (version file)).1), ready.named)

  -- how long the plate will be
  pub length_is : {start : ℕ} → start ≡ used + size → start + length picture ≡ length_after file w h
  unfolding length_after
  length_is s = omega (arith, file_long, ready.exact)

  -- the bodies
  bodies : take (used - first) (drop first buffer) ≡ drop first file
  bodies =
      let e : used ≡ first + (used - first) = omega (arith, first_low) in
      let cut : file ≡ take first buffer ++ take (used - first) (drop first buffer) = ap (λ (k : ℕ). take k buffer) e ∙ take-add first (used - first) buffer in
      sym (ap (drop first) cut ∙ drop_at (take first buffer) (take (used - first) (drop first buffer)) first (length-take-le first buffer (omega (arith, first_low, ready.inside))))

  bodies_long : length (drop first file) ≡ used - first
  bodies_long = simp length-drop (omega (arith, file_long))

  pub opened : {start : ℕ} {now : List ℕ} → start ≡ used + size → now ≡ copied (used - first) first (first + (start - used)) buffer → now ≡ laid_at (first + size) (drop first file) buffer
  opened {start} s e =
      let to : first + (start - used) ≡ first + size = omega arith in
      e
      ∙ ap (λ (k : ℕ). copied (used - first) first k buffer) to
      ∙ laid_copied (used - first) first (first + size) buffer (omega (arith, first_low, ready.inside)) (omega (arith, first_low, fits))
      ∙ ap (λ (t : List ℕ). laid_at (first + size) t buffer) bodies

  module _ {now : List ℕ} (is : now ≡ laid_at (first + size) (drop first file) buffer) where
    inside : first + size + length (drop first file) ≤ length buffer
    inside = omega (arith, bodies_long, first_low, fits)

    long : length now ≡ length buffer
    long = rw is (laid_length (first + size) (drop first file) buffer inside)

    -- up to the table's end it is the old plate
    same : (k : ℕ) → k < first → get_or now k 0 ≡ get_or file k 0
    same k l = rw is (laid_below (first + size) (drop first file) buffer inside k (omega arith)) ∙ sym (get_or-take used buffer k 0 (omega (arith, first_low)))

    table : entry_at file (count file) ≤ first
    table = omega (arith, first_is file)

    version_is : version now ≡ version file
    version_is = same_version now file first same table

    count_is : count now ≡ count file
    count_is = same_count now file first same table

    entry_is : (i : ℕ) → i < count file → entry_of now i ≡ entry_of file i
    entry_is = same_entry now file first same table

    pub opened_ready : Retabling now
    opened_ready =
        let more = add-mul (count file) 1 size in
        let one = one-mul size in
        record {
          tabled = record { few = omega (arith, count_is, tabled.few); inside = rw (count_is, version_is, long) (omega (arith, tabled.inside, file_long, ready.inside)) };
          few = omega (arith, count_is, few);
          room = rw (count_is, version_is, long) (omega (arith, first_is file, first_low, fits));
          far = λ i l. far i (omega (arith, count_is));
        }
      where
        far : (i : ℕ) → i < count file → (entry_of now i).offset + entry_size (version now) < 4294967296
        far i l =
            let o = plate_entry file ready.plate i l in
            rw (entry_is i l, version_is) (omega (arith, o.starts, o.ends, entry_room (version file), plate_small file ready.plate))

    after_same : (new : Entry) (i : ℕ) → entry_after now new i ≡ entry_after file new i
    unfolding entry_after
    after_same new i = rw (count_is, version_is) (by (ltb i (count file)) refl)
      where
        by : (t : Bool) → ltb i (count file) ≡ t → cond t (further size (entry_of now i)) new ≡ cond t (further size (entry_of file i)) new
        by true e = ap (further size) (entry_is i (ltb-true i (count file) e))
        by false e = refl

    head_same : (new : Entry) → head_after now new ≡ head_after file new
    head_same new =
        rw (version_is, count_is)
        (ap (λ (t : List ℕ). header_bytes (version file) (count file + 1) ++ t) (table_same (version file) (entry_after now new) (entry_after file new) (count file + 1) (λ i _. after_same new i)))

    front_long : (new : Entry) → length (head_after file new ++ drop first file) ≡ used + size
    front_long new = omega (arith, length-append (head_after file new) (drop first file), head_long file new, bodies_long, first_low)

    -- header and table, the bodies, and the picture
    whole_is : (label : Beside) → (head_after file (new_entry file w h label) ++ drop first file) ++ picture ≡ added file w h label picture
    whole_is label = append_assoc (head_after file (new_entry file w h label)) (drop first file) picture ∙ sym (added_is file w h label picture)

    pub appended : (label : Beside) {start : ℕ} {headed last : List ℕ} → start ≡ used + size →
        headed ≡ laid (head_after now (new_entry file w h label)) now →
        last ≡ take start headed ++ (picture ++ drop (start + length picture - start) (drop start headed)) →
        last ≡ laid (added file w h label picture) buffer
    appended label {start} {headed} s e f =
        f
        ∙ laid_part start picture headed
        ∙ ap (laid_at start picture) front
        ∙ laid_next 0 (head ++ drop first file) buffer picture start (omega (arith, front_long new)) (omega (arith, front_long new, fits))
        ∙ laid_first ((head ++ drop first file) ++ picture) buffer
        ∙ ap (λ (t : List ℕ). laid t buffer) (whole_is label)
      where
        new : Entry
        new = new_entry file w h label

        head : List ℕ
        head = head_after file new

        front : headed ≡ laid_at 0 (head ++ drop first file) buffer
        front =
            e
            ∙ ap (λ (t : List ℕ). laid t now) (head_same new)
            ∙ sym (laid_first head now)
            ∙ ap (laid_at 0 head) is
            ∙ laid_ahead 0 head buffer (drop first file) (first + size) (omega (arith, head_long file new)) (omega (arith, head_long file new, inside))
