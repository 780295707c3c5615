-- The table's bytes are the shadow's alphas, one for each.
use mathlib.Core.Path.{◌∙◌}
use Rattle.composite.proofs.Laid.{through_alphas}
use Rattle.composite.proofs.shadow_alphas.Goals as goal

pub returns : goal.returns
returns c =
    let s = c.args in
    c.pass_through.ensures ∙ through_alphas s.colour s.plane.now _ (λ j. (c.slice_known-1.given j).fits) c.alpha_table.ensures
