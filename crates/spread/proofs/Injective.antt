-- Two answers of the report with the same number and spread are one answer: it can be read back from them.
use mathlib.Core.Path.{◌≡◌, refl}
use Prim.Native.Nat.{ℕ}
use Rattle.std.specs.Prelude.{Result, Ok, Err}
use Rattle.picture.specs.Answer.{Answer}
use Rattle.picture.specs.declared.checks.Refusal.{Refusal}
use Rattle.picture.proofs.Answers.{undone}
use Rattle.picture.proofs.Refused.{answer_of, answer_undone}
use Rattle.spread.specs.Spread.{report}
use Rattle.spread.specs.declared.Spread.{Spread}

report_back : Answer ℕ → Result Spread Refusal
report_back f = answer_of f.number (record { units = f.left })

report_undone : (a : Result Spread Refusal) → report_back (report a) ≡ a
unfolding report_back answer_of
report_undone (Ok s) = refl
report_undone (Err r) = answer_undone r (record { units = 0 })

pub report_injective : (a b : Result Spread Refusal) → report a ≡ report b → a ≡ b
report_injective = undone report report_back report_undone
