-- What both contracts say of a call of a list, and what follows from it for every call.
use mathlib.Core.Path.{◌≡◌}
use lib.ListN.{length}
use Rattle.picture.specs.Planes.{bytes_of, cleared}
use Rattle.picture.specs.Answer.{LentCopy, lent_copy}
use Rattle.picture.proofs.Settled.{Reading, read}
use Rattle.recipe_checks.specs.Own.{Chained}
use Rattle.recipes.specs.Chain.{chain_left, chain_answer, chain_outcome, chain_found, chained}
use Rattle.recipe_laws.specs.Calls.{ListCall, called, called_from_c, OfCalls}

abbrev pub Promised : ListCall → Type 0
Promised k = chain_answer k.answer k.after ≡ chain_outcome k.before.picture k.w k.h k.before.scratch k.before.copy k.steps k.table

pub of_calls : (P : ListCall → Type 0) → ((k : ListCall) → Promised k → P k) → OfCalls P
of_calls P f = record { list = λ κs a r left. f (called κs a r left); from_c = λ κs a r left. f (called_from_c κs a r left) }

-- what is found of a call's list, and what is left where that is nothing
abbrev pub found_of : ListCall → Chained
found_of k = chain_found (length k.before.picture) k.w k.h (length k.before.scratch) (length k.before.copy) k.steps k.table

abbrev pub done_of : ListCall → LentCopy
done_of k =
    lent_copy (chained k.table k.w k.h k.steps k.before.picture) (cleared (bytes_of k.w k.h) k.before.scratch) (cleared (bytes_of k.w k.h) k.before.copy)

pub reading : (k : ListCall) → Promised k →
    Reading (found_of k).number (chain_left (found_of k).index k.before) (chain_left 0 (done_of k)) k.answer.number (chain_left k.answer.index k.after)
unfolding chain_outcome
reading k e = read _ _ _ _ _ e
