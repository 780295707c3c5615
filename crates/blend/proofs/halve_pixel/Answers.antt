-- The four pixels read are halving's samples.
use mathlib.Core.Path.{◌∙◌}
use Prim.Native.Nat.{◌+◌, ◌-◌, ◌*◌}
use Rattle.picture.proofs.Spans.{span_same}
use Rattle.passes.specs.Passes.{halve}
use Rattle.passes.specs.Written.{lane}
use Rattle.passes.proofs.Written.{element_made}
use Rattle.blend.proofs.Pixels.{pixels_mix}
use Rattle.blend.proofs.Outputs.{halved_inside}
use Rattle.blend.proofs.halve_pixel.Goals as goal

pub returns : goal.returns
returns c =
    let a = c.args in
    let at = 2 * a.x in
    λ mode.
    element_made (halve mode) a.src.now a.start a.len 4 a.x
    (span_same c.write_pixel.ensures
    (λ k _ l.
    pixels_mix a.src.now a.start (at - 1) at (at + 1) (at + 2) c.read_pixel-p.ensures c.read_pixel-q.ensures c.read_pixel-r.ensures c.read_pixel-s.ensures c.weigh_pixels.ensures k l
    ∙ halved_inside mode a.len a.x (lane a.src.now a.start 4 k) c.requires.0 c.requires.1))
