-- Theorems of the entries' contracts: what a started plate is, and what is read back of a plate that was added to.
use mathlib.Core.Path.{◌≡◌, refl, ◌∙◌, sym, ap}
use mathlib.Core.Bool.{true}
use mathlib.Core.List.{List}
use Prim.Native.Nat.{ℕ, ◌+◌, ◌<◌}
use native.Mathlib.Omega.{arith}
use contract.Lifetimes.{Lfts}
use borrow.Fn.Kinds.{Dens, ended_of}
use denote.Triple.Clauses.{AtExit}
use lib.ListN.{length, take, drop}
use lib.Seq.{take_at, drop_at}
use Rattle.std.proofs.Common.{Result, Ok}
use Rattle.picture.specs.declared.checks.Refusal.{Refusal}
use Rattle.picture.specs.Answer.{answered}
use Rattle.picture.specs.Planes.{laid}
use Rattle.plate_numbers.specs.Numbers.{version, count, entry_size}
use Rattle.plate_format.specs.Format.{entry_of, is_plate}
use Rattle.plate_written.proofs.Written.{length_header}
use Rattle.plate.specs.Lookup.{picture_of, looked_up, answers, Beside, beside, labelled_up_to, labelled_up}
use Rattle.plate.specs.declared.Found.{Found}
use Rattle.plate.proofs.Settle.{listed, there}
use Rattle.plate_room.specs.Room.{in_use}
use Rattle.plate_room.proofs.Room.{roomy}
use Rattle.plate_empty.specs.Outcome.{empty_plate}
use Rattle.plate_write.specs.Added.{added}
use Rattle.plate_empty.specs.Outcome.{Grown, grown}
use Rattle.plate_write.specs.Steps.{Adding}
use Rattle.plate_back.specs.ReadsBack.{moved_on, last_added, ReadsBack}
use Rattle.plate_back.proofs.Back.{Addable, version_kept, count_more, old_entry_is, new_entry_is, offset_is, last, length_added, old_body, new_body, still}
use Rattle.plate_back.proofs.Empty.{empty_version, empty_count, empty_plate_lem}
use Rattle.plate_empty.proofs.Settle.{start_accepted}
use Rattle.plate_write.proofs.Settle.{add_accepted}
use Rattle.plate.proofs.find_picture.Reads as find
use Rattle.plate.proofs.find_picture.Kinds as find-kinds
use Rattle.plate_empty.proofs.plate_start.Reads as start
use Rattle.plate_empty.proofs.plate_start.Kinds as start-kinds
use Rattle.plate_write.proofs.plate_add.Reads as add
use Rattle.plate_write.proofs.plate_add.Kinds as add-kinds

-- the stretch that new bytes at a buffer's start are, and what comes after it
taken : (new old : List ℕ) → take (length new) (laid new old) ≡ new
unfolding laid
taken new old = take_at new (drop (length new) old) (length new) refl

stays : (new old : List ℕ) → drop (length new) (laid new old) ≡ drop (length new) old
unfolding laid
stays new old = drop_at new (drop (length new) old) (length new) refl

module _ {buffer : List ℕ} {used w h : ℕ} {picture : List ℕ} (label : Beside) (ready : Adding buffer used w h label.unit picture) where
  abbrev file : List ℕ
  file = in_use buffer used

  addable : Addable file w h label picture
  addable =
      let r = roomy (length buffer) file w h ready.room in
      record { plate = ready.plate; named = ready.named; sides = ready.sides; exact = ready.exact; few = r.few; whole = r.whole }

  -- what a lookup finds, there and here
  old_looked : (i : ℕ) → i < count file → looked_up file i ≡ answered 0 (picture_of file i)
  old_looked i l = sym (there file i ready.plate l)

  new_looked : (i : ℕ) → i < count file + 1 → looked_up (added file w h label picture) i ≡ answered 0 (picture_of (added file w h label picture) i)
  new_looked i l = sym (there (added file w h label picture) i (still addable) (rw (count_more addable) l))

  old_labelled : (i : ℕ) → i < count file → answered 0 (beside (entry_of file i).unit (entry_of file i).sheet) ≡ labelled_up file i
  unfolding labelled_up_to
  old_labelled i l = listed file i (beside 0 0) (beside (entry_of file i).unit (entry_of file i).sheet) ready.plate l

  new_labelled : (i : ℕ) → i < count file + 1 →
      let A = added file w h label picture in answered 0 (beside (entry_of A i).unit (entry_of A i).sheet) ≡ labelled_up A i
  unfolding labelled_up_to
  new_labelled i l = listed (added file w h label picture) i (beside 0 0) _ (still addable) (rw (count_more addable) l)

  -- of the plate with one picture more
  pub added_back : ReadsBack file (added file w h label picture) w h label picture
  added_back =
      record {
        plate = still addable;
        same_version = version_kept addable;
        one_more = count_more addable;
        old_found = λ i l. rw (new_looked i (omega arith), old_looked i l, old_entry_is addable i l, offset_is addable i (omega arith));
        old_bytes = λ i l. rw (new_looked i (omega arith), old_looked i l) (old_body addable i l);
        new_found = rw (new_looked (count file) (omega arith), new_entry_is addable, offset_is addable (count file) (omega arith), last addable);
        new_bytes = rw (new_looked (count file) (omega arith)) (new_body addable);
        old_labels = λ i l. sym (new_labelled i (omega arith)) ∙ rw (old_entry_is addable i l) (old_labelled i l);
        new_label = sym (new_labelled (count file) (omega arith)) ∙ rw (new_entry_is addable);
      }

-- as a user reads it, of the entry's contract: what a call that is not refused leaves
pub reads_back : (κs : Lfts 2) (a : Dens κs add-kinds.ps) (used' : ℕ) (left : AtExit (ended_of 2 add-kinds.ps add-kinds.r) κs) → add.Post κs a (Ok used') left →
    let buffer = a.0.now in
    let after = left.0.now in
    ReadsBack (in_use buffer a.1.0) (in_use after used') a.1.1.1.0 a.1.1.1.1.0 (beside a.1.1.1.1.1.0 a.1.1.1.1.1.1.0) a.1.1.0.now × (drop used' after ≡ drop used' buffer)
reads_back κs a used' left post =
    let label = beside a.1.1.1.1.1.0 a.1.1.1.1.1.1.0 in
    let accepted = add_accepted _ _ _ _ _ label (grown left.0.now used') post in
    let ready = accepted.adding in
    let A = added (in_use a.0.now a.1.0) a.1.1.1.0 a.1.1.1.1.0 label a.1.1.0.now in
    let long : used' ≡ length A = ap (λ (g : Grown). g.used) accepted.is ∙ sym (length_added (addable label ready)) in
    let bytes : left.0.now ≡ laid A a.0.now = ap (λ (g : Grown). g.buffer) accepted.is in
    (rw (bytes, long, taken A a.0.now) (added_back label ready), rw (bytes, long) (stays A a.0.now))

-- of a lookup's contract: asked of the new stretch, it answers what it answered of the old one, one table entry further on; and after the old pictures the new one
pub finds_back : {old new picture : List ℕ} {w h : ℕ} {label : Beside} → ReadsBack old new w h label picture →
    (κs : Lfts 1) (a : Dens κs find-kinds.ps) (r : Result Found Refusal) (left : AtExit (ended_of 1 find-kinds.ps find-kinds.r) κs) → find.Post κs a r left → a.0.now ≡ new →
    (a.1.0 < count old → answers r ≡ moved_on (entry_size (version old)) (looked_up old a.1.0))
    × (a.1.0 ≡ count old → answers r ≡ answered 0 (last_added old w h))
finds_back back κs a r left post is =
    (λ l. post ∙ ap (λ (file : List ℕ). looked_up file a.1.0) is ∙ back.old_found a.1.0 l, λ e. post ∙ rw (is, e) back.new_found)

-- a plate that was started is a plate of no pictures, of the version that was named
pub starts_empty : (κs : Lfts 1) (a : Dens κs start-kinds.ps) (used : ℕ) (left : AtExit (ended_of 1 start-kinds.ps start-kinds.r) κs) → start.Post κs a (Ok used) left →
    let plate = in_use left.0.now used in
    (is_plate plate ≡ true) × (version plate ≡ a.1.0) × (count plate ≡ 0) × (drop used left.0.now ≡ drop used a.0.now)
starts_empty κs a used left post =
    let accepted = start_accepted _ _ (grown left.0.now used) post in
    let v = a.1.0 in
    let four : used ≡ length (empty_plate v) = ap (λ (g : Grown). g.used) accepted.1 ∙ sym (length_header v 0) in
    let bytes : left.0.now ≡ laid (empty_plate v) a.0.now = ap (λ (g : Grown). g.buffer) accepted.1 in
    let plate : in_use left.0.now used ≡ empty_plate v = rw (bytes, four) (taken (empty_plate v) a.0.now) in (
      rw plate (empty_plate_lem v accepted.0),
      rw plate (empty_version v),
      rw plate (empty_count v),
      rw (bytes, four) (stays (empty_plate v) a.0.now),
    )
