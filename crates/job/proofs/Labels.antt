-- Theorem of the job's contract: it leaves every entry of a plate as it was, with its unit and its sheet.
use mathlib.Core.Path.{◌≡◌, refl, ap}
use mathlib.Core.Bool.{Bool, true, false}
use mathlib.Core.List.{List}
use Prim.Native.Nat.{ℕ, ◌<◌}
use Rattle.std.proofs.Common.{Result}
use contract.Lifetimes.{Lfts}
use borrow.Fn.Kinds.{Dens, ended_of}
use denote.Triple.Clauses.{AtExit}
use lib.Dec.{eqb}
use borrow.Author.Tests.{eqb-true, eqb-false}
use Rattle.picture.specs.Answer.{answered, Lent, lent}
use Rattle.picture.specs.Refusal.{number_of}
use Rattle.picture.specs.declared.checks.Refusal.{Refusal}
use Rattle.picture.proofs.Settled.{read}
use Rattle.plate_numbers.specs.Numbers.{count}
use Rattle.plate_format.specs.Format.{entry_of, is_plate}
use Rattle.body_blur.specs.Blur.{plate_blur}
use Rattle.job.specs.Job.{jobbed, job_outcome_to, job_outcome}
use Rattle.job.proofs.After.{after_all, entry_kept}
use Rattle.body_blur.proofs.Fixed.{keeps}
use Rattle.job.proofs.plate_job.Reads as job
use Rattle.job.proofs.plate_job.Kinds as kinds

jobbed_entry : (file : List ℕ) → is_plate file ≡ true → (i : ℕ) → i < count file → entry_of (jobbed plate_blur file) i ≡ entry_of file i
jobbed_entry file plate i l = rw (← after_all plate_blur keeps file plate) (entry_kept plate_blur keeps file plate (count file) i l)

-- done or refused
left_entry : (file scratch : List ℕ) (r : ℕ) (left : Lent) → answered r left ≡ job_outcome plate_blur file scratch → is_plate file ≡ true →
    (i : ℕ) → i < count file → entry_of left.picture i ≡ entry_of file i
unfolding job_outcome_to
left_entry file scratch r left e plate i l = by (eqb r 0) refl
  where
    by : (b : Bool) → eqb r 0 ≡ b → entry_of left.picture i ≡ entry_of file i
    by true z = rw (ap (λ (x : Lent). x.picture) ((read _ _ _ r left e).finished (eqb-true r 0 z))) (jobbed_entry file plate i l)
    by false z = rw (ap (λ (x : Lent). x.picture) ((read _ _ _ r left e).unchanged (eqb-false r 0 z)))

pub labels_kept : (κs : Lfts 2) (a : Dens κs kinds.ps) (r : Result Unit Refusal) (left : AtExit (ended_of 2 kinds.ps kinds.r) κs) → job.Post κs a r left →
    let file = a.0.now in
    let after = left.0.now in
    is_plate file ≡ true → (i : ℕ) → i < count file → ((entry_of after i).unit ≡ (entry_of file i).unit) × ((entry_of after i).sheet ≡ (entry_of file i).sheet)
labels_kept κs a r left post plate i l = rw (left_entry _ _ (number_of r) (lent left.0.now left.1.0.now) post plate i l) (refl, refl)
