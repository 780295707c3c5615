-- Two answers of the check with the same number and finding are one answer: it can be read back from them.
use mathlib.Core.Path.{◌≡◌, refl}
use mathlib.Core.Bool.{cond}
use Rattle.std.specs.Prelude.{Option, Some, None, Result, Ok, Err}
use Rattle.picture.specs.Answer.{Answer}
use Rattle.picture.specs.declared.checks.Refusal.{Refusal}
use Rattle.picture.proofs.Answers.{undone}
use Rattle.grading.specs.Premultiplied.{Finding, finding}
use Rattle.grading.specs.declared.premultiplied.Place.{Place}
use Rattle.picture.proofs.Refused.{answer_of, answer_undone}

check_back : Answer Finding → Result (Option Place) Refusal
check_back f = answer_of f.number (cond f.left.found (Some (record { at = f.left.place })) None)

check_undone : (a : Result (Option Place) Refusal) → check_back (finding a) ≡ a
unfolding check_back answer_of
check_undone (Ok (Some p)) = refl
check_undone (Ok None) = refl
check_undone (Err r) = answer_undone r None

pub finding_injective : (a b : Result (Option Place) Refusal) → finding a ≡ finding b → a ≡ b
finding_injective = undone finding check_back check_undone
