-- Too long an input is refused here, and else the job's own answer is the program's.
use borrow.Author.Tests.{ltb-true, lt-leb, ltb-false, le-leb}
use native.Mathlib.Omega.{arith}
use lib.ListN.{length}
use Rattle.std.proofs.lemmas.Result.{err_from_is_err_and}
use Rattle.picture.specs.Answer.{settled}
use Rattle.picture.specs.Refusal.{number, number_of}
use Rattle.plate_numbers.proofs.Refused.{refusing, passing}
use Rattle.body_blur.specs.Blur.{plate_blur}
use Rattle.job.proofs.Settle.{job_roomy}
use Rattle.plate_job.specs.Program.{longest_input, answer_to}
use Rattle.plate_job.proofs.run.Goals as goal

pub returns-in_err-refuse_if : goal.returns-in_err-refuse_if
unfolding answer_to settled number number_of
returns-in_err-refuse_if c =
    let p = err_from_is_err_and c.from_residual.result c.from_residual.ensures.1 in
    let t = refusing _ c.in_err-refuse_if.ensures in
    rw (p.1, p.2, t.1, lt-leb (length c.args.input.now) longest_input (ltb-true _ _ t.0))

pub returns : goal.returns
unfolding answer_to
returns c =
    let short = ltb-false _ _ (passing _ _ c.in_ok-refuse_if.ensures) in
    rw (le-leb (length c.args.input.now) longest_input short) (job_roomy plate_blur c.args.input.now c.args.scratch.now (omega (arith, short)) c.plate_job.ensures)
