-- A group of checks that refuses does so for the whole.
use Rattle.std.proofs.Common.{not, [], ◌∷◌, arith}
use Rattle.std.proofs.lemmas.Result.{err_from_is_err_and}
use Rattle.picture.specs.Refusal.{number_of, first_else, first_of, check, picture_checks, too_deep, wrong_edge}
use Rattle.binary32.specs.Ranges.{finite}
use Rattle.picture.proofs.Refused.{number_some, group_refuses}
use Rattle.gaussian_blur.specs.Outcome.{kernel_checks}
use Rattle.gaussian_blur.proofs.check_blur.Goals as goal

pub returns-in_err-check_picture : goal.returns-in_err-check_picture
unfolding number_of
returns-in_err-check_picture c =
    let a = c.args in
    let p = err_from_is_err_and c.from_residual.result c.from_residual.ensures.1 in
    rw (p.1, p.2) (group_refuses (picture_checks a.picture a.w a.h) _ _ (number_some _) c.in_err-check_picture.ensures)

pub returns-in_err-check_kernel : goal.returns-in_err-check_kernel
unfolding number_of first_of first_else
returns-in_err-check_kernel c =
    let a = c.args in
    let p = err_from_is_err_and c.from_residual-in_err-check_kernel.result c.from_residual-in_err-check_kernel.ensures.1 in
    let g = group_refuses (kernel_checks a.weights.now) (check 6 (too_deep a.n) ∷ check 7 (not (finite a.strength)) ∷ check 9 (wrong_edge a.edge) ∷ []) _ (number_some _) c.in_err-check_kernel.ensures in
    rw (p.1, p.2) (grind (arith, g, c.in_ok-check_picture.ensures))
