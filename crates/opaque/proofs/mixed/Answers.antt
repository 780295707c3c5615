-- Where all words are at least that of alpha 255 alone, each pixel has it.
use native.Mathlib.Nat.{le_trans}
use native.Mathlib.Omega.{arith}
use borrow.Author.Tests.{ltb-false}
use lib.ListN.{length}
use Rattle.opaque.proofs.Fronts.{opaque_words}
use Rattle.opaque.proofs.mixed.Goals as goal

pub returns : goal.returns
returns c e =
    opaque_words c.args.block.now _ (length c.args.words.now) (λ i. omega (arith, c.type_inv.block i)) c.requires c.pack_pixels.ensures
    (λ k l. le_trans (ltb-false _ 4278190080 e) (c.common.ensures k l))
