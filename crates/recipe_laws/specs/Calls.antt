-- A call of a list of recipes, from Rattle or from C: what it was lent, and what it answered and left.
use Rattle.std.specs.Prelude.{List, ℕ, Float, Result}
use contract.Lifetimes.{Lfts}
use denote.Triple.Clauses.{AtExit}
use denote.Triple.Entry.{Args}
use Rattle.picture.specs.Answer.{LentCopy, lent_copy}
use Rattle.recipe_checks.specs.declared.Step.{Step}
use Rattle.recipe_checks.specs.declared.Stopped.{Stopped}
use Rattle.recipe_checks.specs.Own.{Chained, found, told}
use Rattle.recipes.proofs.Promised.{Post}
use Rattle.recipes.specs.contracts.recipes as entry
use Rattle.recipe_laws.specs.Promised as face-promise
use Rattle.face_recipes.specs.contracts.corbelrush_recipes as face

-- the three buffers before and after, of w by h pixels, the list, its table of weights, and the number with its index
pub record ListCall : Type 0 where
  pub before : LentCopy
  pub w : ℕ
  pub h : ℕ
  pub steps : List Step
  pub table : List Float
  pub answer : Chained
  pub after : LentCopy

-- from Rattle
abbrev pub called : (κs : Lfts 5) → Args entry.signature κs → Result Unit Stopped → AtExit entry.ended κs → ListCall
called κs a r x =
    record {
      before = lent_copy a.0.now a.1.1.1.0.now a.1.1.1.1.0.now;
      w = a.1.0;
      h = a.1.1.0;
      steps = a.1.1.1.1.1.0.now;
      table = a.1.1.1.1.1.1.0.now;
      answer = told r;
      after = lent_copy x.0.now x.1.1.1.0.now x.1.1.1.1.0.now;
    }

-- from C, where the index is behind a pointer
abbrev pub called_from_c : (κs : Lfts 6) → Args face.signature κs → ℕ → AtExit face.ended κs → ListCall
called_from_c κs a r x =
    record {
      before = lent_copy a.0.now a.1.1.1.0.now a.1.1.1.1.0.now;
      w = a.1.0;
      h = a.1.1.0;
      steps = a.1.1.1.1.1.0.now;
      table = a.1.1.1.1.1.1.0.now;
      answer = found r x.1.1.1.1.1.1.1.0.now;
      after = lent_copy x.0.now x.1.1.1.0.now x.1.1.1.1.0.now;
    }

-- of every call that the contract of the entry allows, and of every one that that of its function for C allows
pub record OfCalls (P : ListCall → Type 0) : Type 0 where
  pub list : (κs : Lfts 5) (a : Args entry.signature κs) (r : Result Unit Stopped) (left : AtExit entry.ended κs) → Post κs a r left → P (called κs a r left)
  pub from_c : (κs : Lfts 6) (a : Args face.signature κs) (r : ℕ) (left : AtExit face.ended κs) → face-promise.Post κs a r left → P (called_from_c κs a r left)
