use native.Mathlib.Omega.{arith}
use lib.ListN.{length}
use Rattle.picture.proofs.Build.{build_ext}
use Rattle.picture.proofs.Spans.{span_at}
use Rattle.pixels.proofs.Painting.{begins, turn}
use Rattle.counting.proofs.words.unpack_pixels.Goals as goal

pub loop-k-preserved : goal.loop-k-preserved
loop-k-preserved c =
    turn c.loop-k.invariant c.unpack.result (omega arith) (omega arith) c.set_pixel.ensures c.unpack.ensures

pub returns : goal.returns
returns c =
    build_ext (length c.args.bytes.now) _ _ c.loop-k.invariant.run.size (λ i l. span_at c.loop-k.invariant.run i (omega arith) (omega arith) (omega arith))

pub loop-k-init : goal.loop-k-init
loop-k-init c = begins
