-- Each way out is the answer of the check that led there; past the checks the bodies are blurred.
use mathlib.Core.Path.{◌≡◌, ◌∙◌, sym, ap}
use mathlib.Core.Bool.{true, false}
use Prim.Native.Nat.{ℕ, ◌≤◌}
use native.Mathlib.Omega.{arith}
use lib.Dec.{ltb}
use lib.ListN.{length}
use borrow.Author.Tests.{not-true, not-false, ltb-true, ltb-false}
use Rattle.std.proofs.lemmas.Result.{err_from_is_err_and}
use Rattle.picture.specs.Refusal.{number, number_of}
use Rattle.plate_numbers.proofs.Refused.{refusing, passing}
use Rattle.plate_format.specs.Format.{is_plate}
use Rattle.plate_format.proofs.Rules.{plate_tabled}
use Rattle.body_blur.specs.Blur.{plate_blur}
use Rattle.job.specs.Job.{longest_body}
use Rattle.job.proofs.Settle.{job_broken, job_short, job_done}
use Rattle.job.proofs.plate_job.Goals as goal
use Rattle.job.proofs.plate_job.Goals.{In_ok-refuse_if}

pub returns-in_err-refuse_if : goal.returns-in_err-refuse_if
unfolding number number_of
returns-in_err-refuse_if c =
    let p = err_from_is_err_and c.from_residual.result c.from_residual.ensures.1 in
    let t = refusing _ c.in_err-refuse_if.ensures in
    rw (p.1, p.2, t.1) (job_broken _ _ _ (sym c.is_plate.ensures ∙ not-true _ t.0))

plate : (c : In_ok-refuse_if) → is_plate c.args.plate.now ≡ true
plate c = sym c.is_plate.ensures ∙ not-false _ (passing _ _ c.in_ok-refuse_if.ensures)

pub longest_body-requires : goal.longest_body-requires
longest_body-requires c = plate_tabled _ (plate (goal.at.longest_body-requires c).In_ok-refuse_if)

pub returns-in_err-refuse_if-2 : goal.returns-in_err-refuse_if-2
unfolding number number_of
returns-in_err-refuse_if-2 c =
    let p = err_from_is_err_and c.from_residual-in_err-refuse_if-2.result c.from_residual-in_err-refuse_if-2.ensures.1 in
    let t = refusing _ c.in_err-refuse_if-2.ensures in
    rw (p.1, p.2, t.1) (job_short _ _ _ (plate (goal.at.returns-in_err-refuse_if-2 c).In_ok-refuse_if) (rw (← c.longest_body.ensures) (ltb-true _ _ t.0)))

pub blur_bodies-requires : goal.blur_bodies-requires
blur_bodies-requires c =
    (plate (goal.at.blur_bodies-requires c).In_ok-refuse_if, omega (arith, c.longest_body.ensures, ltb-false _ _ (passing _ _ c.in_ok-refuse_if-2.ensures)))

pub returns : goal.returns
unfolding number_of
returns c =
    let room : longest_body c.args.plate.now ≤ length c.args.scratch.now = omega (arith, c.longest_body.ensures, ltb-false _ _ (passing _ _ c.in_ok-refuse_if-2.ensures)) in
    rw c.blur_bodies.ensures (job_done plate_blur _ _ (plate (goal.at.returns c).In_ok-refuse_if) room)
