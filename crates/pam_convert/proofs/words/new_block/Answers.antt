-- The pixels are packed, made anew and unpacked.
use mathlib.Core.Path.{◌∙◌}
use native.Mathlib.Omega.{arith}
use lib.ListN.{length}
use Rattle.pam_convert.proofs.Anew.{packed_fit, new_bytes}
use Rattle.pam_convert.proofs.words.new_block.Goals as goal

-- what is packed are bytes
pub new_words-requires : goal.new_words-requires
new_words-requires g c =
    packed_fit g.W.Words.out c.args.from.now (λ i. omega (arith, c.type_inv.from i)) c.requires.fact_3 (length c.args.words.now) _ c.requires.fact_1 c.pack_pixels.ensures

pub returns : goal.returns
returns g c =
    let a = c.args in
    let r = c.requires in
    c.unpack_pixels.ensures
    ∙ new_bytes g.W.Words.out a.from.now (λ i. omega (arith, c.type_inv.from i)) r.fact_3 (length a.words.now) _ r.fact_1 c.pack_pixels.ensures (length a.to.now) _ r.fact_2 c.new_words.ensures
