-- The two pixels read are doubling's samples.
use mathlib.Core.Path.{◌≡◌, ◌∙◌}
use Prim.Native.Nat.{◌+◌, ◌*◌}
use native.Mathlib.Omega.{arith}
use Rattle.picture.proofs.Spans.{span_same, span_join}
use Rattle.passes.specs.Passes.{double}
use Rattle.passes.specs.Written.{lane}
use Rattle.passes.proofs.Written.{element_made}
use Rattle.blend.proofs.Pixels.{pixels_mix}
use Rattle.blend.proofs.Outputs.{odd_inside, even_inside}
use Rattle.blend.proofs.double_pixel.Goals as goal

pub returns : goal.returns
returns c =
    let a = c.args in
    let x = a.x in
    let src = a.src.now in
    let p = c.read_pixel-p.ensures in
    let q = c.read_pixel-q.ensures in
    let two : 2 * x + 1 + 1 ≡ 2 * x + 2 = omega arith in
    let three : 2 * x + 2 + 1 ≡ 2 * x + 3 = omega arith in
    λ mode.
    rw three at
    (span_join (omega arith) (omega arith)
    (rw two at
    (element_made (double mode) src a.start a.len 4 (2 * x + 1)
    (span_same c.write_pixel.ensures
    (λ k _ l.
    pixels_mix src a.start (x + 1) x x (x + 1) q p p q c.weigh_pixels.ensures k l
    ∙ odd_inside mode a.len x (lane src a.start 4 k) c.requires.0))))
    (element_made (double mode) src a.start a.len 4 (2 * x + 2)
    (span_same c.write_pixel-2.ensures
    (λ k _ l.
    pixels_mix src a.start x (x + 1) (x + 1) x p q q p c.weigh_pixels-2.ensures k l
    ∙ even_inside mode a.len x (lane src a.start 4 k) c.requires.0))))
