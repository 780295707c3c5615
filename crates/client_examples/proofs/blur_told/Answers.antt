-- The blur's own promise, read: its number is the first refusal; not 0 means unchanged; 0 means that every check passed.
use mathlib.Core.Path.{◌∙◌, sym, ap}
use native.Mathlib.Omega.{arith}
use lib.ListN.{length}
use Rattle.picture.specs.Answer.{Lent}
use Rattle.picture.specs.Sizes.{max_side}
use Rattle.picture.proofs.Settled.{read}
use Rattle.picture.proofs.Conditions.{each_passes, right_sides, right_length}
use Rattle.gaussian_blur.specs.Outcome.{blur_checks, blur_outcome}
use Rattle.client_examples.proofs.blur_told.Goals as goal

pub returns : goal.returns
unfolding blur_outcome max_side
returns c =
    let a = c.args in
    let told = read _ _ _ _ _ c.blur-answer.ensures in
    let passed = (each_passes (blur_checks (length a.picture.now) a.w a.h (length a.scratch.now) a.weights.now a.n a.strength a.edge) (omega arith)).0 in
    record {
      wide = λ zero. let s = ((right_sides _ _).0 (passed (sym zero ∙ c.number_of.ensures ∙ told.number)).0).0 in omega arith;
      high = λ zero. let s = ((right_sides _ _).0 (passed (sym zero ∙ c.number_of.ensures ∙ told.number)).0).1 in omega arith;
      exact = λ zero. (right_length _ _ _).0 (passed (sym zero ∙ c.number_of.ensures ∙ told.number)).1.0;
      kept = λ some. let l = told.unchanged (λ z. some (c.number_of.ensures ∙ z)) in (ap (λ (b : Lent). b.picture) l, ap (λ (b : Lent). b.scratch) l);
    }
