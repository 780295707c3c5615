-- What the check finds, as the numbers that C gets.
use Rattle.std.specs.Prelude.{cond, ℕ}
use Rattle.picture.specs.Answer.{Answer, answered}
use Rattle.grading.specs.Premultiplied.{Finding}

-- the same number, and what is left in other words
abbrev pub reworded : {A B : Type 0} → (A → B) → Answer A → Answer B
reworded f a = answered a.number (f a.left)

-- a finding behind two pointers: found is 1 or 0, and the place
pub record Pointers : Type 0 where
  pub found : ℕ
  pub place : ℕ

abbrev pub pointers : ℕ → ℕ → Pointers
pointers found place = record { found = found; place = place }

abbrev pub finding_in : Finding → Pointers
finding_in f = pointers (cond f.found 1 0) f.place
