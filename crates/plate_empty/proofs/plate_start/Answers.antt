-- Each way out is the answer of the check that led there; past them the header is written.
use mathlib.Core.Path.{◌≡◌, ◌∙◌, sym, ap}
use mathlib.Core.Bool.{true}
use mathlib.Core.List.{List}
use native.Mathlib.Omega.{arith}
use borrow.Author.Tests.{not-true, not-false, ltb-false}
use Rattle.std.proofs.lemmas.Result.{err_from_is_err_and}
use Rattle.picture.specs.Answer.{answered}
use Rattle.picture.specs.Refusal.{number}
use Rattle.plate_numbers.specs.Numbers.{known}
use Rattle.plate_numbers.proofs.Refused.{refusing, passing}
use Rattle.plate_numbers.proofs.Versions.{known_small}
use Rattle.plate_empty.specs.Outcome.{grown}
use Rattle.plate_empty.proofs.Settle.{unknown, too_small, started}
use Rattle.plate_empty.proofs.plate_start.Goals as goal
use Rattle.plate_empty.proofs.plate_start.Goals.{In_ok-refuse_if}

pub returns-in_err-refuse_if : goal.returns-in_err-refuse_if
unfolding number
returns-in_err-refuse_if c =
    let p = err_from_is_err_and c.from_residual.result c.from_residual.ensures.1 in
    let t = refusing _ c.in_err-refuse_if.ensures in
    rw (p.1, p.2, t.1) (unknown _ _ (sym c.known.ensures ∙ not-true _ t.0))

-- there is such a version
there : (c : In_ok-refuse_if) → known c.args.version ≡ true
there c = sym c.known.ensures ∙ not-false _ (passing _ _ c.in_ok-refuse_if.ensures)

pub returns-in_err-refuse_if-2 : goal.returns-in_err-refuse_if-2
unfolding number
returns-in_err-refuse_if-2 c =
    let p = err_from_is_err_and c.from_residual-in_err-refuse_if-2.result c.from_residual-in_err-refuse_if-2.ensures.1 in
    let t = refusing _ c.in_err-refuse_if-2.ensures in
    rw (p.1, p.2, t.1) (too_small _ _ (there (goal.at.returns-in_err-refuse_if-2 c).In_ok-refuse_if) t.0)

pub overflow_cast-version : goal.overflow_cast-version
overflow_cast-version c = omega (arith, known_small _ (there (goal.at.overflow_cast-version c).In_ok-refuse_if))

pub returns : goal.returns
returns c =
    ap (λ (b : List _). answered 0 (grown b 4)) c.put_header.ensures
    ∙ started _ _ (there (goal.at.returns c).In_ok-refuse_if) (passing _ _ c.in_ok-refuse_if-2.ensures)
