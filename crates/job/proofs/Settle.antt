-- Laws of what the job answers in each case of its checks, and where the scratch has room for any body.
use mathlib.Core.Path.{◌≡◌, refl, ◌∙◌, sym, ap}
use mathlib.Core.Bool.{Bool, true, false, cond}
use mathlib.Core.List.{List}
use Prim.Native.Nat.{ℕ, ◌<◌, ◌≤◌}
use native.Mathlib.Omega.{arith}
use lib.ListN.{length}
use borrow.Author.Tests.{lt-ltb, le-ltb}
use Rattle.picture.specs.Planes.{cleared}
use Rattle.picture.specs.Answer.{Answer, answered, Lent, lent, settled}
use Rattle.picture.specs.Refusal.{first_else, first_of}
use Rattle.plate_numbers.specs.Numbers.{count}
use Rattle.plate_format.specs.Format.{is_plate}
use Rattle.body_blur.specs.Blur.{BodyBlur}
use Rattle.job.specs.Job.{longest_body, jobbed, job_outcome_to, job_outcome}
use Rattle.job.proofs.Lengths.{longest_inside}

module _ (blur : BodyBlur) (file scratch : List ℕ) where
  pub job_broken : is_plate file ≡ false → answered 10 (lent file scratch) ≡ job_outcome blur file scratch
  unfolding job_outcome_to first_of first_else settled
  job_broken p = rw p

  module _ (plate : is_plate file ≡ true) where
    pub job_short : length scratch < longest_body file → answered 3 (lent file scratch) ≡ job_outcome blur file scratch
    unfolding job_outcome_to first_of first_else settled
    job_short l = rw (plate, lt-ltb (length scratch) (longest_body file) l)

    pub job_done : longest_body file ≤ length scratch → answered 0 (lent (jobbed blur file) (cleared (longest_body file) scratch)) ≡ job_outcome blur file scratch
    unfolding job_outcome_to first_of first_else settled
    job_done l = rw (plate, le-ltb (length scratch) (longest_body file) l)

  -- a scratch as long as the file has room for any body: then 10 is the one refusal
  module _ (long : length file ≤ length scratch) {r : ℕ} {left : Lent} (e : answered r left ≡ job_outcome blur file scratch) where
    on_file : {a : Answer Lent} → a ≡ job_outcome blur file scratch → answered r left.picture ≡ answered a.number a.left.picture
    on_file f = ap (λ (o : Answer Lent). answered o.number o.left.picture) (e ∙ sym f)

    pub job_roomy : answered r left.picture ≡ settled (cond (is_plate file) 0 10) file (jobbed blur file)
    unfolding settled
    job_roomy = by_plate (is_plate file) refl
      where
        by_plate : (b : Bool) → is_plate file ≡ b → answered r left.picture ≡ settled (cond b 0 10) file (jobbed blur file)
        by_plate false p = on_file (job_broken p)
        by_plate true p = on_file (job_done p (omega (arith, longest_inside file p (count file) (omega arith))))
