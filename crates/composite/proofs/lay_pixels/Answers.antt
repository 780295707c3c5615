use mathlib.Core.Path.{◌≡◌, refl, ap₂, sym, ◌∙◌}
use mathlib.Core.Bool.{Bool, true, false, cond}
use Prim.Native.Nat.{ℕ}
use native.Mathlib.Omega.{arith}
use denote.Param.{number}
use lib.ListN.{get_or}
use Rattle.picture.specs.declared.Pixel.{Pixel}
use Rattle.composite.specs.contracts.lay_pixels.{COMPOSITE-type}
use Rattle.composite.specs.Channels.{over}
use Rattle.composite.specs.Shadow.{over_pixel}
use Rattle.composite.specs.Plane.{tinted_by, tint_on}
use Rattle.pixels.specs.Pixels.{pixel}
use Rattle.pixels.proofs.Painting.{at, begins, chan_here, next, turn, ends}
use Rattle.composite.proofs.Laid.{plane_here, channels}
use Rattle.composite.proofs.lay_pixels.Goals as goal

pub loop-i-preserved : goal.loop-i-preserved
loop-i-preserved g c =
    let b = COMPOSITE-type (number g.row.COMPOSITE) in
    turn c.loop-i.invariant c.pixel_over-out.result (omega arith) (omega arith) c.set_pixel.ensures
    (c.pixel_over-out.ensures ∙ ap₂ (λ (p q : Pixel). cond b (over_pixel p q) q) (c.pixel_at.ensures ∙ next c.loop-i.invariant) c.tinted_pixel.ensures ∙ channels b (at c.args.picture.now c.loop-i.i) (tinted_by c.args.tint (get_or c.args.alphas.now c.loop-i.i 0)))

pub returns : goal.returns
unfolding tint_on
returns g c =
    let p = c.args.picture.now in
    let w = c.args.size.w in
    ends c.loop-i.invariant w c.args.size.h _ (omega arith) c.requires.fact_1.exact
    (λ i k l. sym (rw (chan_here p w k i, plane_here c.args.alphas.now w i, chan_here p w 3 i)))

pub loop-i-init : goal.loop-i-init
loop-i-init g c = begins
