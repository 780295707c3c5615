use mathlib.Core.Path.{◌≡◌, ◌∙◌, ap₂, sym}
use mathlib.Core.Bool.{cond}
use Prim.Native.Nat.{◌*◌, ◌/◌}
use native.Mathlib.Omega.{arith}
use denote.Param.{number}
use lib.ListN.{get_or}
use Rattle.picture.specs.declared.Pixel.{Pixel}
use Rattle.composite.specs.Shadow.{over_pixel}
use Rattle.composite.specs.Plane.{tinted_by, tint_on}
use Rattle.composite.proofs.Laid.{plane_here, channels}
use Rattle.plane_shadow.specs.Places.{channel_in}
use Rattle.plane_shadow.specs.contracts.lay_planes.{COMPOSITE-type}
use Rattle.plane_shadow.proofs.Laying.{begins, next, turn, ends, planes_here}
use Rattle.plane_shadow.proofs.lay_planes.Goals as goal

pub loop-i-init : goal.loop-i-init
loop-i-init g c = begins (omega (arith, c.requires.pictured.exact))

pub loop-i-preserved : goal.loop-i-preserved
loop-i-preserved g c =
    let b = COMPOSITE-type (number g.row.COMPOSITE) in
    let i = c.loop-i.i in
    let l = c.loop-i-test.true in
    turn c.loop-i.invariant c.pixel_over-out.result l c.set_pixel_in.ensures
    (c.pixel_over-out.ensures
    ∙ ap₂ (λ (p q : Pixel). cond b (over_pixel p q) q) (c.pixel_in.ensures ∙ next c.loop-i.invariant l) c.tinted_pixel-shadow.ensures
    ∙ channels b (channel_in (c.bytes-n.result / 4) c.args.planes.now i) (tinted_by c.args.tint (get_or c.args.alphas.now i 0)))

pub returns : goal.returns
unfolding tint_on
returns g c =
    let p = c.args.planes.now in
    let w = c.args.size.w in
    let h = c.args.size.h in
    let is : c.bytes-n.result / 4 ≡ w * h = omega arith in
    ends c.loop-i.invariant w h _ (omega arith) is
    (λ i k l. sym (rw (planes_here p w h _ k i is, plane_here c.args.alphas.now w i, planes_here p w h _ 3 i is)))
