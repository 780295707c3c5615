-- What the contract of `corbelrush_recipes` promises of an answer and of the parameters at exit: the contract that is generated from the source says this and nothing else.
use Rattle.std.specs.Prelude.{◌≡◌, refl, ℕ}
use seplogic.Ra.Ura.{Ura}
use base.Logic.{SProp}
use prog.Memory.{Memory}
use prog.Routine.{Routine}
use types.Logic.{Logic}
use contract.Lifetimes.{Lfts}
use contract.Monad.{Fun, fact}
use denote.Triple.Clauses.{AtExit}
use denote.Triple.Entry.{Args}
use Rattle.picture.specs.Answer.{Answer, answered, lent_copy}
use Rattle.recipes.specs.Chain.{ChainLeft, chain_left, chain_outcome}
use Rattle.face_recipes.specs.contracts.corbelrush_recipes as face

-- what C sees of a call: the number, the three buffers, and the index behind the pointer
abbrev pub seen : (κs : Lfts 6) → ℕ → AtExit face.ended κs → Answer ChainLeft
seen κs r x = answered r (chain_left x.1.1.1.1.1.1.1.0.now (lent_copy x.0.now x.1.1.1.0.now x.1.1.1.1.0.now))

abbrev pub Post : (κs : Lfts 6) → Args face.signature κs → ℕ → AtExit face.ended κs → Type 0
Post κs a r x = seen κs r x ≡ chain_outcome a.0.now a.1.0 a.1.1.0 a.1.1.1.0.now a.1.1.1.1.0.now a.1.1.1.1.1.0.now a.1.1.1.1.1.1.0.now

pub is_promised : {M : Type 1} {𝓤 : Ura M} (𝓛 : Logic 𝓤) (mem : Memory → SProp 𝓤) (run : Routine → Fun 𝓤) (κs : Lfts 6) (a : Args face.signature κs) (r : ℕ) (x : AtExit face.ended κs) →
    (face.clauses 𝓛 mem run κs a).ensures tt r x ≡ fact 𝓤 (Post κs a r x)
is_promised 𝓛 mem run κs a r x = refl
