-- 19, or the entry's own outcome.
use mathlib.Core.Path.{sym, ◌∙◌, ap}
use mathlib.Core.List.{List}
use Prim.Native.Nat.{ℕ}
use lib.Ieee.{Float}
use borrow.Author.Tests.{eq-eqb, ne_eqb}
use Rattle.picture.specs.Answer.{Answer, lent_copy}
use Rattle.picture.specs.Refusal.{number, number_of}
use Rattle.recipe_checks.specs.Single.{beside_both, kernel_call, single_call}
use Rattle.recipe_checks.proofs.Known.{known_kernel}
use Rattle.recipe_checks.proofs.call.Goals as goal

pub returns-then-is_unknown : goal.returns-then-is_unknown
unfolding number number_of single_call
returns-then-is_unknown c = rw (sym c.is_unknown.ensures ∙ c.if-is_unknown.true)

pub returns-then-step-eq-SHIFT : goal.returns-then-step-eq-SHIFT
unfolding single_call
returns-then-step-eq-SHIFT c =
    let a = c.args in
    rw (sym c.is_unknown.ensures ∙ c.if-is_unknown.false, eq-eqb _ 1 c.if-step-eq-SHIFT.true)
    (ap (λ (o : Answer (List ℕ)). beside_both o a.scratch.now a.copy.now) c.shift.ensures)

pub kernel_part-weights-requires : goal.kernel_part-weights-requires
kernel_part-weights-requires c = known_kernel _ _ (sym c.is_unknown.ensures ∙ c.if-is_unknown.false) c.if-step-eq-SHIFT.false

pub returns : goal.returns
unfolding single_call
returns c =
    let a = c.args in
    rw (sym c.is_unknown.ensures ∙ c.if-is_unknown.false, ne_eqb _ 1 c.if-step-eq-SHIFT.false)
    (c.call_with_kernel.ensures
    ∙ ap (λ (weights : List Float). kernel_call weights a.w a.h a.step (lent_copy a.picture.now a.scratch.now a.copy.now)) c.kernel_part-weights.ensures)
