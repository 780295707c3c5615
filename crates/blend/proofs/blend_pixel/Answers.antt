-- The pixels read are the bytes of the taps.
use mathlib.Core.Path.{◌≡◌, ap, ◌∙◌}
use Prim.Native.Nat.{ℕ, ◌+◌}
use native.Mathlib.Nat.{add-zero}
use native.Mathlib.Omega.{arith}
use lib.ListN.{get_or}
use Rattle.picture.proofs.Spans.{span_same}
use Rattle.pixels.specs.Pixels.{pixel_from}
use Rattle.blend.specs.Blend.{weighed}
use Rattle.blend.specs.Tapped.{weights_of}
use Rattle.blend.proofs.Pixels.{bytes_made}
use Rattle.blend.proofs.blend_pixel.Goals as goal

pub returns : goal.returns
returns c =
    let a = c.args in
    let t = a.t in
    let first : (o : ℕ) → pixel_from a.src.now (a.start + o + 0) ≡ pixel_from a.src.now (a.start + o) = λ o. ap (pixel_from a.src.now) (add-zero (a.start + o)) in
    let from : ℕ → ℕ → ℕ = λ o k. get_or a.src.now (a.start + o + k) 0 in
    let here : a.o + 0 ≡ a.o = omega arith in
    span_same (rw here at c.write_pixel.ensures)
    (λ k _ l.
    bytes_made (weighed (weights_of t)) (from t.a.at) (from t.b.at) (from t.c.at) (from t.d.at) (c.read_pixel-p.ensures ∙ first t.a.at) (c.read_pixel-q.ensures ∙ first t.b.at) (c.read_pixel-r.ensures ∙ first t.c.at) (c.read_pixel-s.ensures ∙ first t.d.at) (rw c.weights.ensures at c.weigh_pixels.ensures) k l)
