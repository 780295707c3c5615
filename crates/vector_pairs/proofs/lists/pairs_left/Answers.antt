-- What is compared with is the part's pairs afterwards.
use mathlib.Core.Path.{◌≡◌, refl}
use Rattle.std.proofs.lemmas.Bool.Decides.{Decides-eqb}
use Rattle.std.proofs.lemmas.Slice.Eq.{slice_eq-Decides}
use Rattle.vector_values.specs.Values.{tells}
use Rattle.vector_pairs.proofs.lists.pairs_left.Goals as goal

pub returns : goal.returns
returns c =
    let told : tells c.eq.result (c.args.found.now ≡ c.pairs_from.result) = slice_eq-Decides (λ p q. slice_eq-Decides Decides-eqb p q _ refl) _ _ _ c.eq.ensures in
    rw c.pairs_from.ensures.value at told
