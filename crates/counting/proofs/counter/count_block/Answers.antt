-- The block's pixels are packed, and the words counted.
use mathlib.Core.Path.{◌∙◌}
use native.Mathlib.Omega.{arith}
use Rattle.counting.proofs.Packed.{packed_many}
use Rattle.counting.proofs.counter.count_block.Goals as goal

pub returns : goal.returns
returns c =
    let a = c.args in
    c.count_words.ensures ∙ packed_many a.picture.now _ a.from _ (λ i. omega (arith, c.type_inv.picture i)) c.pack_pixels.ensures
