-- The picture's alphas are cast, and what is written is the picture with the shadow of that plane.
use mathlib.Core.Path.{◌∙◌, sym}
use Rattle.picture.specs.Planes.{chan}
use Rattle.picture.proofs.Planes.{painted_same}
use Rattle.composite.proofs.Laid.{alphas_plane}
use Rattle.drop_shadow.proofs.Cast.{cast_laid, shadowed_is}
use Rattle.drop_shadow.proofs.apply_drop_shadow.Goals as goal

pub write_colored_shadow-requires : goal.write_colored_shadow-requires
write_colored_shadow-requires c =
    let r = c.requires.fact_1 in
    record {
      fact_1 = c.cast_plane.auto.plane ∙ c.take_alphas.auto.plane ∙ r.plane_is;
      fact_2 = record { sized = r.sized; exact = c.requires.fact_2 };
      fact_3 = rw c.from-colour.ensures r.given.colour;
    }

pub returns : goal.returns
returns c =
    let r = c.requires.fact_1 in
    let a = c.args in
    let p = a.picture.now in
    let t = a.cast in
    let w = t.size.w in
    let h = t.size.h in
    let zw = r.sized.w_low in
    let zh = r.sized.h_low in
    c.write_colored_shadow.ensures
    ∙ rw (c.from-colour.ensures, c.cast_plane.ensures, c.take_alphas.ensures)
    (painted_same w h _ _
    (λ k x y lk lx ly.
    cast_laid t.mode a.weights.now t.n t.recipe w h zw zh t.composite _ (chan p w) (λ i j li lj. alphas_plane _ p w h i j r.plane_is li lj) k x y lx ly))
    ∙ sym (shadowed_is t.mode a.weights.now t.n t.recipe w h zw zh t.composite p)
