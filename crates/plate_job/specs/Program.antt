-- What the program makes of its input.
use Rattle.std.specs.Prelude.{◌&&◌, cond, List, ℕ, leb, length}
use Rattle.picture.specs.Answer.{Answer, settled}
use Rattle.plate_format.specs.Format.{is_plate}
use Rattle.body_blur.specs.Blur.{plate_blur}
use Rattle.job.specs.Job.{jobbed}

-- the most bytes that the program takes
abbrev pub longest_input : ℕ
longest_input = 16384

-- refused 10, where the input is longer or no plate; or every body blurred
unfoldable pub answer_to : List ℕ → Answer (List ℕ)
answer_to input = settled (cond (leb (length input) longest_input && is_plate input) 0 10) input (jobbed plate_blur input)
