-- The file once the bodies below i are blurred: its table and the other bodies are as they were, and one body more gives the next.
use mathlib.Core.Path.{◌≡◌, ◌∙◌, sym}
use mathlib.Core.Bool.{true}
use mathlib.Core.List.{List, ◌++◌, append_assoc, append-nil}
use Prim.Native.Nat.{ℕ, zero, suc, ◌+◌, ◌<◌, ◌≤◌}
use native.Mathlib.Numerals.{add-one}
use native.Mathlib.Omega.{arith}
use lib.ListN.{length, get_or, take, drop, length-append, length-drop, take-append-drop, get_or-append}
use lib.Seq.{length-take-le, get_or-take, take_at, drop_at, drop-drop, drop-length}
use Rattle.plate_numbers.specs.Numbers.{count}
use Rattle.plate_format.specs.Format.{entry_at, entry_of, body_offset, is_plate}
use Rattle.plate_format.specs.Needs.{Tabled}
use Rattle.plate_format.proofs.Table.{same_count, same_entry_at, same_entry}
use Rattle.plate_format.proofs.Rules.{rules, offset_up, plate_tabled, plate_entry}
use Rattle.body_blur.specs.Blur.{BodyBlur}
use Rattle.job.specs.Job.{body_of, blurred_body, jobbed_below, jobbed}
use Rattle.body_blur.specs.Steps.{with_body}
use Rattle.body_blur.proofs.Fixed.{Keeps}

-- the file once the bodies below i are blurred
abbrev pub after : BodyBlur → List ℕ → ℕ → List ℕ
after blur file i = jobbed_below blur file i ++ drop (body_offset file i) file

module _ (blur : BodyBlur) (keeps : Keeps blur) (file : List ℕ) (plate : is_plate file ≡ true) where
  table_fits : body_offset file 0 ≤ length file
  unfolding body_offset
  table_fits = (plate_tabled file plate).inside

  -- the blurred bodies lie where the bodies lay
  pub length_jobbed : (i : ℕ) → i ≤ count file → length (jobbed_below blur file i) ≡ body_offset file i
  unfolding jobbed_below body_offset
  length_jobbed zero l = length-take-le _ _ table_fits
  length_jobbed (suc i) l =
      simp length-append
      (omega (arith, length_jobbed i (omega arith), (plate_entry file plate i l).long, keeps (entry_of file i).width (entry_of file i).height (body_of file i)))

  pub after_none : file ≡ after blur file 0
  unfolding jobbed_below
  after_none = sym (take-append-drop (body_offset file 0) file)

  pub after_all : after blur file (count file) ≡ jobbed blur file
  after_all = rw (← (rules file plate).bodies.exact, drop-length file) (append-nil _)

  pub length_after_lem : (i : ℕ) → i ≤ count file → length (after blur file i) ≡ length file
  length_after_lem i l =
      simp (length-append, length-drop)
      (omega (arith, length_jobbed i l, offset_up file l, (rules file plate).bodies.exact))

  -- the table is as it was
  front : (i : ℕ) (rest : List ℕ) (k : ℕ) → k < body_offset file 0 → get_or (jobbed_below blur file i ++ rest) k 0 ≡ get_or file k 0
  unfolding jobbed_below
  front zero rest k l =
      get_or-append (take (body_offset file 0) file) rest 0 k (omega (arith, length-take-le (body_offset file 0) file table_fits)) ∙ get_or-take _ file k 0 l
  front (suc i) rest k l = rw append_assoc (front i (blurred_body blur file i ++ rest) k l)

  module _ (i : ℕ) where
    same : (k : ℕ) → k < body_offset file 0 → get_or (after blur file i) k 0 ≡ get_or file k 0
    same = front i (drop (body_offset file i) file)

    table : entry_at file (count file) ≤ body_offset file 0
    unfolding body_offset
    table = omega arith

    pub count_kept : count (after blur file i) ≡ count file
    count_kept = same_count (after blur file i) file (body_offset file 0) same table

    pub entry_kept : (k : ℕ) → k < count file → entry_of (after blur file i) k ≡ entry_of file k
    entry_kept = same_entry (after blur file i) file (body_offset file 0) same table

    pub table_kept : i ≤ count file → Tabled (after blur file i)
    table_kept l =
        let t = plate_tabled file plate in
        record {
          few = rw count_kept t.few;
          inside = rw (count_kept, same_entry_at (after blur file i) file (body_offset file 0) same table (count file), length_after_lem i l) t.inside;
        }

  -- body i is still as it was once the bodies below it are blurred
  module _ (i : ℕ) (l : i < count file) where
    rest_kept : drop (body_offset file i) (after blur file i) ≡ drop (body_offset file i) file
    rest_kept = drop_at (jobbed_below blur file i) (drop (body_offset file i) file) _ (length_jobbed i (omega arith))

    -- one body more
    pub after_more : with_body (after blur file i) (body_offset file i) (entry_of file i).length
        (blur (entry_of file i).width (entry_of file i).height (take (entry_of file i).length (drop (body_offset file i) (after blur file i))))
        ≡ after blur file (i + 1)
    unfolding jobbed_below body_offset
    after_more =
        rw (add-one, rest_kept, take_at (jobbed_below blur file i) (drop (body_offset file i) file) _ (length_jobbed i (omega arith)), drop-drop (entry_of file i).length (body_offset file i) file, append_assoc)
