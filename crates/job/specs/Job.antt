-- The job: each body of a plate is blurred where it lies.
use Rattle.std.specs.Prelude.{not, List, [], ◌∷◌, ◌++◌, ℕ, zero, suc, max, ltb, length, take, drop}
use Rattle.picture.specs.Planes.{cleared}
use Rattle.picture.specs.Answer.{Answer, Lent, lent, settled}
use Rattle.picture.specs.Refusal.{Check, check, first_of}
use Rattle.plate_numbers.specs.Numbers.{count, newest}
use Rattle.plate_format.specs.Format.{entry_of, body_offset, is_plate_to}
use Rattle.body_blur.specs.Blur.{BodyBlur}

-- body i: the stretch of the file that entry i names
abbrev pub body_of : List ℕ → ℕ → List ℕ
body_of file i = take (entry_of file i).length (drop (body_offset file i) file)

-- the longest of the bodies below i
unfoldable pub longest_below : List ℕ → ℕ → ℕ
longest_below file zero = 0
longest_below file (suc i) = max (longest_below file i) (entry_of file i).length

-- the longest body's length, 0 for a plate without pictures
abbrev pub longest_body : List ℕ → ℕ
longest_body file = longest_below file (count file)

-- body i, blurred
abbrev pub blurred_body : BodyBlur → List ℕ → ℕ → List ℕ
blurred_body blur file i = blur (entry_of file i).width (entry_of file i).height (body_of file i)

-- the table as it was, then the bodies below i, each blurred
unfoldable pub jobbed_below : BodyBlur → List ℕ → ℕ → List ℕ
jobbed_below blur file zero = take (body_offset file 0) file
jobbed_below blur file (suc i) = jobbed_below blur file i ++ blurred_body blur file i

-- the file afterwards: the table as it was, then every body blurred
abbrev pub jobbed : BodyBlur → List ℕ → List ℕ
jobbed blur file = jobbed_below blur file (count file)

-- Plate job, of a reader whose newest version is r: 10, then 3
abbrev pub job_checks_to : ℕ → List ℕ → List ℕ → List Check
job_checks_to r file scratch = check 10 (not (is_plate_to r file)) ∷ check 3 (ltb (length scratch) (longest_body file)) ∷ []

-- the first refusal; or every body blurred, and the scratch zero where it was used
unfoldable pub job_outcome_to : ℕ → BodyBlur → List ℕ → List ℕ → Answer Lent
job_outcome_to r blur file scratch =
    settled (first_of (job_checks_to r file scratch)) (lent file scratch) (lent (jobbed blur file) (cleared (longest_body file) scratch))

-- and of this release
abbrev pub job_outcome : BodyBlur → List ℕ → List ℕ → Answer Lent
job_outcome blur file scratch = job_outcome_to newest blur file scratch
