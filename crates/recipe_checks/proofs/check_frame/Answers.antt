-- A group of checks that refuses does so for the whole.
use mathlib.Core.List.{[], ◌∷◌}
use Rattle.std.proofs.lemmas.Result.{err_from_is_err_and}
use Rattle.picture.specs.Refusal.{number_of, check, picture_checks}
use Rattle.picture.proofs.Refused.{number_some, group_refuses}
use Rattle.drop_shadow.specs.Outcome.{either_short}
use Rattle.recipe_checks.proofs.check_frame.Goals as goal

pub returns-in_err-check_picture : goal.returns-in_err-check_picture
unfolding number_of
returns-in_err-check_picture c =
    let a = c.args in
    let p = err_from_is_err_and c.from_residual.result c.from_residual.ensures.1 in
    rw (p.1, p.2) (group_refuses (picture_checks a.picture a.w a.h) (check 3 (either_short a.scratch a.copy a.w a.h) ∷ []) _ (number_some _) c.in_err-check_picture.ensures)
