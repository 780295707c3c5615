-- Where body i lies in a job's result: where its entry says, blurred; the table stays, and nothing else is in a plate.
use mathlib.Core.Path.{◌≡◌, ◌∙◌, sym, ap}
use mathlib.Core.Bool.{true}
use mathlib.Core.List.{List, [], ◌++◌, append_assoc, append-nil}
use Prim.Native.Nat.{ℕ, zero, suc, ◌<◌}
use native.Mathlib.Decide.{le_ind}
use native.Mathlib.Nat.{le_refl}
use native.Mathlib.Omega.{arith}
use lib.Dec.{lit<}
use lib.Ieee.{lt}
use lib.ListN.{length, take, drop}
use lib.Seq.{length-take-le, take_at, drop_at}
use borrow.Author.Tests.{not-false}
use Rattle.picture.specs.Answer.{answered, Lent}
use Rattle.picture.specs.declared.EdgeMode.TheVariants.{Duplicate}
use Rattle.picture.proofs.Passed.{passed}
use Rattle.picture.proofs.Settled.{read}
use Rattle.gaussian_blur.specs.Blurred.{blurred}
use Rattle.gaussian_blur.specs.Outcome.{blurred_or_kept}
use Rattle.plate_numbers.specs.Numbers.{count}
use Rattle.plate_format.specs.Format.{entry_at, entry_of, body_offset, is_plate}
use Rattle.plate_format.specs.declared.Entry.{Entry}
use Rattle.plate_format.proofs.Rules.{rules, plate_tabled, plate_entry}
use Rattle.body_blur.specs.Blur.{plate_weights, plate_blur}
use Rattle.job.specs.Job.{body_of, blurred_body, jobbed_below, jobbed, job_outcome_to, job_outcome}
use Rattle.job.proofs.After.{length_jobbed}
use Rattle.body_blur.proofs.Fixed.{keeps}

-- the stretch of a file that an entry names: from its offset on, of its length
abbrev pub named : Entry → List ℕ → List ℕ
named e file = take e.length (drop e.offset file)

-- a plate after the job
pub record EachBlurred (file left : List ℕ) : Type 0 where
  pub long : length left ≡ length file
  pub table : take (entry_at file (count file)) left ≡ take (entry_at file (count file)) file
  pub body : (i : ℕ) → i < count file →
      let e = entry_of file i in named e left ≡ blurred Duplicate plate_weights 1 e.width e.height (named e file)

module _ (file : List ℕ) (plate : is_plate file ≡ true) where
  table_below : (n : ℕ) (rest : List ℕ) → take (body_offset file 0) (jobbed_below plate_blur file n ++ rest) ≡ take (body_offset file 0) file
  unfolding jobbed_below body_offset
  table_below zero rest = take_at (take (body_offset file 0) file) rest _ (length-take-le _ file (plate_tabled file plate).inside)
  table_below (suc n) rest = rw append_assoc (table_below n (blurred_body plate_blur file n ++ rest))

  -- body i, once it and some bodies after it are blurred
  module _ (i : ℕ) (l : i < count file) where
    abbrev BodyIn : ℕ → Type 0
    BodyIn n =
        (rest : List ℕ) →
        take (entry_of file i).length (drop (body_offset file i) (jobbed_below plate_blur file n ++ rest)) ≡ blurred_body plate_blur file i

    body_length : length (blurred_body plate_blur file i) ≡ (entry_of file i).length
    body_length = keeps (entry_of file i).width (entry_of file i).height (body_of file i) ∙ sym (plate_entry file plate i l).long

    body_last : BodyIn (suc i)
    unfolding jobbed_below
    body_last rest =
        rw (append_assoc, drop_at (jobbed_below plate_blur file i) (blurred_body plate_blur file i ++ rest) _ (length_jobbed plate_blur keeps file plate i (omega arith)))
        (take_at (blurred_body plate_blur file i) rest _ body_length)

    body_below : (n : ℕ) → i < n → BodyIn n
    unfolding jobbed_below
    body_below n k = le_ind BodyIn body_last (λ m _ h rest. rw append_assoc (h (blurred_body plate_blur file m ++ rest))) n k

  pub each_blurred : EachBlurred file (jobbed plate_blur file)
  unfolding body_offset plate_blur blurred_or_kept lt
  each_blurred =
      let all : jobbed plate_blur file ++ [] ≡ jobbed plate_blur file = append-nil _ in
      record {
        long = length_jobbed plate_blur keeps file plate (count file) (le_refl _) ∙ sym (rules file plate).bodies.exact;
        table = rw (← all) (table_below (count file) []);
        body = λ i l. rw ((plate_entry file plate i l).starts, ← all) (body_below i l (count file) l []);
      }

-- what a call that answers 0 leaves
pub job_leaves_lem : (file scratch : List ℕ) (r : ℕ) (left : Lent) → answered r left ≡ job_outcome plate_blur file scratch → r ≡ 0 → EachBlurred file left.picture
unfolding job_outcome_to
job_leaves_lem file scratch r left e z =
    let t = read _ _ _ r left e in
    let plate = not-false _ (passed _ _ (lit< tt) (sym z ∙ t.number)).0 in
    rw (ap (λ (l : Lent). l.picture) (t.finished z)) (each_blurred file plate)
