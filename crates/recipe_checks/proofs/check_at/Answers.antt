-- The number and the index of the recipe's own refusal, or nothing.
use mathlib.Core.Path.{sym}
use native.Mathlib.Omega.{arith}
use borrow.Author.Tests.{ne_eqb}
use Rattle.picture.specs.Refusal.{number, number_of}
use Rattle.picture.proofs.Refused.{number_some}
use Rattle.recipe_checks.proofs.check_at.Goals as goal

pub returns-in-Ok : goal.returns-in-Ok
unfolding number_of
returns-in-Ok c = rw (sym c.in-Ok.ensures)

pub returns-in-Err : goal.returns-in-Err
unfolding number_of
returns-in-Err c =
    let r = c.in-Err.refusal in
    rw (sym c.in-Err.ensures, ne_eqb (number r) 0 (λ z. omega (arith, number_some r, z)))
