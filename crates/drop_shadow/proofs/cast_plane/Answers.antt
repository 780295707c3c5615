-- The plane is moved, and what that leaves is blurred or kept.
use mathlib.Core.Path.{◌∙◌, sym}
use native.Mathlib.Nat.{mul_comm}
use Rattle.drop_shadow.proofs.Cast.{plane_bytes_lem, plane_formed, cast_done}
use Rattle.drop_shadow.proofs.cast_plane.Goals as goal

pub blur_form-requires : goal.blur_form-requires
blur_form-requires c = let z = c.args.cast.size in
    let exact = mul_comm z.w z.h ∙ sym (plane_bytes_lem z.w z.h) in record { fact_1 = plane_formed; fact_2 = c.requires.sized; fact_3 = c.offset_plane.auto.plane ∙ c.requires.plane_is ∙ exact; fact_4 = c.requires.scratch_is ∙ exact; fact_5 = c.requires.given.kernel }

pub returns : goal.returns
returns c =
    let a = c.args in
    let t = a.cast in
    c.blur_form.ensures
    ∙ cast_done t.mode a.weights.now t.n t.recipe t.size.w t.size.h c.requires.sized.w_low c.requires.sized.h_low a.plane.now _ c.offset_plane.ensures
