-- The halves of the words are those of the pixels, and the pixels are laid.
use mathlib.Core.Path.{refl}
use native.Mathlib.Omega.{arith}
use Rattle.picture.proofs.Spans.{span_ends}
use Rattle.halves.proofs.Joined.{block_together}
use Rattle.halves.proofs.together.put_together.Goals as goal

pub returns : goal.returns
returns c =
    let a = c.args in
    block_together a.src.now a.dst.now (λ i. omega (arith, c.type_inv.src i)) a.n a.m _ _ _ c.pair_bytes.ensures c.pair_bytes-2.ensures _
    (span_ends c.lay_pixels.ensures refl (omega (arith, c.pair_bytes.auto.halves)))
