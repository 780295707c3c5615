use mathlib.Core.Path.{refl, ap, ◌∙◌}
use Prim.Native.Nat.{◌+◌, ◌*◌}
use native.Mathlib.Omega.{arith}
use lib.ListN.{get_or}
use Rattle.picture.proofs.Spans.{span_none, span_ends}
use Rattle.counting.specs.Words.{unpacked, byte_in}
use Rattle.pixels.proofs.Painting.{pixel_more}
use Rattle.halves.proofs.together.lay_pixels.Goals as goal

pub loop-k-init : goal.loop-k-init
loop-k-init c = span_none (omega arith)

pub loop-k-preserved : goal.loop-k-preserved
loop-k-preserved c =
    let a = c.args in
    pixel_more (λ i. byte_in (get_or a.low.now i 0 + get_or a.high.now i 0 * 65536)) c.loop-k.k _ c.unpack.result c.loop-k.invariant (omega arith) (omega arith) c.set_pixel.ensures
    (c.unpack.ensures ∙ ap unpacked c.word.ensures)

pub returns : goal.returns
returns c = span_ends c.loop-k.invariant refl (omega arith)
