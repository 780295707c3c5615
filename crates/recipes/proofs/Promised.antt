-- What the contract of `recipes` promises of an answer and of the parameters at exit: the contract that is generated from the source says this and nothing else.
use mathlib.Core.Path.{◌≡◌, refl}
use seplogic.Ra.Ura.{Ura}
use base.Logic.{SProp}
use prog.Memory.{Memory}
use prog.Routine.{Routine}
use types.Logic.{Logic}
use contract.Lifetimes.{Lfts}
use contract.Monad.{Fun, fact}
use denote.Triple.Clauses.{AtExit}
use denote.Triple.Entry.{Args}
use Rattle.picture.specs.Answer.{lent_copy}
use Rattle.std.proofs.Common.{Result}
use Rattle.recipe_checks.specs.declared.Stopped.{Stopped}
use Rattle.recipe_checks.specs.Own.{told}
use Rattle.recipes.specs.Chain.{chain_answer, chain_outcome}
use Rattle.recipes.specs.contracts.recipes as entry

abbrev pub Post : (κs : Lfts 5) → Args entry.signature κs → Result Unit Stopped → AtExit entry.ended κs → Type 0
Post κs a r x =
    chain_answer (told r) (lent_copy x.0.now x.1.1.1.0.now x.1.1.1.1.0.now) ≡
    chain_outcome a.0.now a.1.0 a.1.1.0 a.1.1.1.0.now a.1.1.1.1.0.now a.1.1.1.1.1.0.now a.1.1.1.1.1.1.0.now

pub is_promised : {M : Type 1} {𝓤 : Ura M} (𝓛 : Logic 𝓤) (mem : Memory → SProp 𝓤) (run : Routine → Fun 𝓤) (κs : Lfts 5) (a : Args entry.signature κs) (r : Result Unit Stopped) (x : AtExit entry.ended κs) →
    (entry.clauses 𝓛 mem run κs a).ensures tt r x ≡ fact 𝓤 (Post κs a r x)
is_promised 𝓛 mem run κs a r x = refl
