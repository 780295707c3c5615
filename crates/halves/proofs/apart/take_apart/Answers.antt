-- The bytes of the four channels are laid one plane after the other.
use mathlib.Core.Path.{refl}
use native.Mathlib.Omega.{arith}
use Rattle.picture.proofs.Spans.{span_ends}
use Rattle.halves.proofs.Taken.{block_apart}
use Rattle.halves.proofs.apart.take_apart.Goals as goal

pub lay_bytes-requires-4 : goal.lay_bytes-requires-4
lay_bytes-requires-4 c = record { fact_1 = omega (arith, c.lay_bytes-3.auto.dst, c.lay_bytes-2.auto.dst, c.lay_bytes.auto.dst, c.take_halves-2.auto.halves, c.requires); fact_2 = omega arith }

pub returns : goal.returns
returns c =
    let words = c.pack_pixels.auto.words in
    let lows = c.take_halves.auto.halves in
    let highs = c.take_halves-2.auto.halves in
    block_apart c.args.src.now (λ i. omega (arith, c.type_inv.src i)) c.args.m _ _ _ _ c.pack_pixels.ensures
    (span_ends c.take_halves.ensures refl words) (span_ends c.take_halves-2.ensures refl words) _ _ _ _ _ c.requires.fact_2
    (span_ends c.lay_bytes.ensures refl lows) (span_ends c.lay_bytes-2.ensures refl lows) (span_ends c.lay_bytes-3.ensures refl highs) (span_ends c.lay_bytes-4.ensures refl highs)
