-- Inward the block that is made has the factors, and its products are the answer.
use mathlib.Core.Path.{◌≡◌, sym, ap, ap₂, ◌∙◌}
use mathlib.Core.Bool.{false}
use mathlib.Core.List.{List}
use Prim.Native.Nat.{ℕ}
use lib.ListN.{length, get_or}
use Rattle.picture.specs.Build.{build}
use Rattle.pixels.specs.Channels.{premultiply}
use Rattle.pam_convert.specs.Straight.{new_at}
use Rattle.pam_convert.proofs.Anew.{products}
use Rattle.pam_convert.proofs.ways.InwardWay.convert_block.Goals as goal

pub returns : goal.returns
returns c =
    let from = c.args.from.now in
    let n = length c.args.to.now in
    let long : length from ≡ n = c.requires.fact_1 ∙ sym c.requires.fact_2 in
    let room : length c.args.factors.now ≡ n = c.requires.fact_3 ∙ sym c.requires.fact_2 in
    c.multiply.ensures
    ∙ ap₂ (λ (k : ℕ) (l : List ℕ). build k (λ j. premultiply (get_or from j 0) (get_or l j 0))) long (c.new_block.ensures ∙ ap (λ (k : ℕ). build k (new_at false from)) room)
    ∙ products n from
