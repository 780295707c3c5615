-- The loop that blurs body 0, 1, .. one after the other: its state, what a turn needs, what it leaves, and that the last leaves the job.
use mathlib.Core.Path.{◌≡◌, refl, ◌∙◌}
use mathlib.Core.Bool.{true}
use mathlib.Core.List.{List}
use Prim.Native.Nat.{ℕ, ◌+◌, ◌<◌, ◌≤◌}
use native.Mathlib.Numerals.{add-one}
use native.Mathlib.Omega.{arith}
use lib.ListN.{length}
use Rattle.picture.specs.Planes.{cleared, laid}
use Rattle.picture.specs.Answer.{lent}
use Rattle.plate_numbers.specs.Numbers.{count}
use Rattle.plate_format.specs.Format.{entry_of, body_offset, is_plate}
use Rattle.plate_format.proofs.Rules.{plate_entry}
use Rattle.body_blur.specs.Blur.{BodyBlur}
use Rattle.job.specs.Job.{longest_below, longest_body, jobbed}
use Rattle.body_blur.specs.Steps.{BodyReady, Blurred}
use Rattle.job.proofs.Lengths.{longest_up}
use Rattle.job.proofs.Cleared.{length_cleared, cleared_twice}
use Rattle.body_blur.proofs.Fixed.{Keeps}
use Rattle.job.proofs.After.{after, after_none, after_all, after_more, length_after_lem, count_kept, entry_kept, table_kept}

-- the state of the loop before body i of a plate that fits the scratch: the body's start, the file and the scratch
pub record Turn (blur : BodyBlur) (file scratch : List ℕ) (i start : ℕ) (now work : List ℕ) : Type 0 where
  pub plate : is_plate file ≡ true
  pub room : longest_body file ≤ length scratch
  pub reached : i ≤ count file
  pub starts : start ≡ body_offset file i
  pub now_is : now ≡ after blur file i
  pub work_is : work ≡ cleared (longest_below file i) scratch

pub turn_none : {blur : BodyBlur} {file scratch : List ℕ} → Keeps blur → is_plate file ≡ true → longest_body file ≤ length scratch → Turn blur file scratch 0 (body_offset file 0) file scratch
unfolding longest_below cleared laid
turn_none {blur} {file} keeps plate room =
    record {
      plate = plate;
      room = room;
      reached = omega arith;
      starts = refl;
      now_is = after_none blur keeps file plate;
      work_is = refl;
    }

module _ {blur : BodyBlur} (keeps : Keeps blur) {file scratch : List ℕ} {i start : ℕ} {now work : List ℕ} (t : Turn blur file scratch i start now work) where
  fits : longest_below file i ≤ length scratch
  fits = omega (arith, longest_up file t.reached)

  pub turn_lengths : (length now ≡ length file) × (length work ≡ length scratch)
  turn_lengths =
      (rw t.now_is (length_after_lem blur keeps file t.plate i t.reached), rw t.work_is (length_cleared (longest_below file i) scratch fits))

  pub turn_all : i ≡ count file → lent now work ≡ lent (jobbed blur file) (cleared (longest_body file) scratch)
  turn_all e = rw (t.now_is, t.work_is, e, after_all blur keeps file t.plate)

  module _ (l : i < count file) where
    entry_is : entry_of now i ≡ entry_of file i
    entry_is = rw t.now_is (entry_kept blur keeps file t.plate i i l)

    body_fits : (entry_of file i).length ≤ length scratch
    unfolding longest_below
    body_fits = omega (arith, longest_up file l)

    pub turn_ready : BodyReady now i start work
    turn_ready =
        let o = plate_entry file t.plate i l in
        record {
          tabled = rw t.now_is (table_kept blur keeps file t.plate i t.reached);
          there = rw (t.now_is, count_kept blur keeps file t.plate i) l;
          sides = rw entry_is o.sides;
          long = rw entry_is o.long;
          inside = rw (entry_is, t.starts, turn_lengths.0) o.ends;
          room = rw (entry_is, turn_lengths.1) body_fits;
        }

    pub turn_more : {next : ℕ} {now' work' : List ℕ} → Blurred blur now i start work next now' work' → Turn blur file scratch (i + 1) next now' work'
    unfolding body_offset longest_below
    turn_more b =
        record {
          plate = t.plate;
          room = t.room;
          reached = omega arith;
          starts = b.follows ∙ rw (add-one, entry_is, t.starts);
          now_is = b.body ∙ rw (entry_is, t.starts, t.now_is) (after_more blur keeps file t.plate i l);
          work_is = b.zeros ∙ rw (add-one, entry_is, t.work_is) (cleared_twice (longest_below file i) (entry_of file i).length scratch fits body_fits);
        }
