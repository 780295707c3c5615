-- What a check by itself answers tells of its test.
use mathlib.Core.Path.{◌≡◌, refl}
use mathlib.Core.Bool.{Bool, true, false}
use Rattle.std.proofs.Common.{Result, Ok, Err}
use Rattle.picture.specs.Refusal.{refused_if}
use Rattle.picture.specs.declared.checks.Refusal.{Refusal}

pub refusing : {r s : Refusal} (b : Bool) → ◌≡◌ {A = Result Unit Refusal} (Err r) (refused_if b s) → (b ≡ true) × (r ≡ s)
refusing true e = (refl, cc)
refusing false e = absurd cc

pub passing : {u : Unit} (b : Bool) (r : Refusal) → ◌≡◌ {A = Result Unit Refusal} (Ok u) (refused_if b r) → b ≡ false
passing true r e = absurd cc
passing false r e = refl
