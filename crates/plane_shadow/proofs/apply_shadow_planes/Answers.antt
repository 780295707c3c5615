-- Alpha's plane is cast, and what is written is the planes with the shadow of it.
use mathlib.Core.Path.{◌∙◌}
use Prim.Native.Nat.{◌-◌, ◌*◌}
use native.Mathlib.Omega.{arith}
use lib.ListN.{length}
use Rattle.plane_shadow.proofs.Cast.{planes_shadowed}
use Rattle.plane_shadow.proofs.apply_shadow_planes.Goals as goal

pub cast_plane-requires : goal.cast_plane-requires
cast_plane-requires c =
    let r = c.requires.fact_1 in
    record { sized = r.sized; plane_is = c.copy_bytes.auto.to ∙ r.plane_is; scratch_is = r.scratch_is; given = r.given }

pub write_plane_shadow-requires : goal.write_plane_shadow-requires
write_plane_shadow-requires c =
    let r = c.requires.fact_1 in
    record {
      fact_1 = record { pictured = record { sized = r.sized; exact = c.requires.fact_2 }; exact = c.cast_plane.auto.plane ∙ c.copy_bytes.auto.to ∙ r.plane_is };
      fact_2 = rw c.from-colour.ensures r.given.colour;
    }

pub returns : goal.returns
returns c =
    let r = c.requires.fact_1 in
    let a = c.args in
    let t = a.cast in
    c.write_plane_shadow.ensures
    ∙ rw (c.from-colour.ensures, c.cast_plane.ensures, c.copy_bytes.ensures)
    (planes_shadowed t.mode a.weights.now t.n t.recipe t.size.w t.size.h r.sized.w_low r.sized.h_low t.composite a.planes.now (length a.plane.now) (4 * length a.plane.now - 3 * length a.plane.now) r.plane_is (omega arith))
