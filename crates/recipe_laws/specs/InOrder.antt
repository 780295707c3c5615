-- A list of recipes is its single calls one after the other; all are checked before the first runs; an empty list changes no picture byte (request 10).
use Rattle.std.specs.Prelude.{◌≡◌, List, [], ◌∷◌, ℕ, Float, length}
use Rattle.picture.specs.Planes.{bytes_of, cleared}
use Rattle.picture.specs.Refusal.{first_of}
use Rattle.picture.specs.Answer.{LentCopy, lent_copy}
use Rattle.recipe_checks.specs.declared.Step.{Step}
use Rattle.recipe_checks.specs.Own.{frame_checks, found}
use Rattle.recipe_checks.specs.Single.{single_call}
use Rattle.recipe_laws.specs.Calls.{ListCall}

-- the single calls one after the other, each on what the one before it left
unfoldable pub single_calls : List Float → ℕ → ℕ → List Step → LentCopy → LentCopy
single_calls table w h [] l = l
single_calls table w h (step ∷ steps) l = single_calls table w h steps (single_call table w h step l).left

-- each of these calls answers 0
unfoldable pub all_answer : List Float → ℕ → ℕ → List Step → LentCopy → Type 0
all_answer table w h [] l = Unit {0}
all_answer table w h (step ∷ steps) l = ((single_call table w h step l).number ≡ 0) × all_answer table w h steps (single_call table w h step l).left

-- done with this picture: 0 with index 0, and in both work buffers the first 4wh bytes zero and the rest unchanged
pub record DoneWith (picture : List ℕ) (k : ListCall) : Type 0 where
  pub answer_is : k.answer ≡ found 0 0
  pub left_is : k.after ≡ lent_copy picture (cleared (bytes_of k.w k.h) k.before.scratch) (cleared (bytes_of k.w k.h) k.before.copy)

-- a list that is refused leaves every byte
abbrev pub RefusedLeavesAll : ListCall → Type 0
RefusedLeavesAll k = (k.answer.number ≡ 0 → ⊥) → k.after ≡ k.before

-- of a list that is not refused every single call answers 0, and the picture is the one that the last of them leaves
abbrev pub LikeSingleCalls : ListCall → Type 0
LikeSingleCalls k =
    k.answer.number ≡ 0 → all_answer k.table k.w k.h k.steps k.before × DoneWith (single_calls k.table k.w k.h k.steps k.before).picture k

-- an empty list that 1 to 3 let through is done, and the picture is as it was
abbrev pub EmptyKeeps : ListCall → Type 0
EmptyKeeps k =
    k.steps ≡ [] → first_of (frame_checks (length k.before.picture) k.w k.h (length k.before.scratch) (length k.before.copy)) ≡ 0 → DoneWith k.before.picture k
