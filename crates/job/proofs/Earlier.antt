-- Theorem of the earlier release's job: it meets a newer version with refusal 10, and both buffers stay as they were.
use mathlib.Core.Path.{◌≡◌}
use mathlib.Core.List.{List}
use Prim.Native.Nat.{ℕ, ◌<◌}
use Rattle.picture.specs.Answer.{answered, lent, settled}
use Rattle.picture.specs.Refusal.{first_else, first_of}
use Rattle.plate_numbers.specs.Numbers.{version}
use Rattle.plate_format.proofs.Earlier.{newer}
use Rattle.body_blur.specs.Blur.{BodyBlur}
use Rattle.job.specs.Job.{job_outcome_to}

pub earlier : (r : ℕ) (blur : BodyBlur) (file scratch : List ℕ) → r < version file → job_outcome_to r blur file scratch ≡ answered 10 (lent file scratch)
unfolding job_outcome_to first_of first_else settled
earlier r blur file scratch l = rw (newer r file l)
