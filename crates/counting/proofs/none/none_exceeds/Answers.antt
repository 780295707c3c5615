-- The pixels of whole blocks and those of the rest are all.
use mathlib.Core.Path.{refl, sym, ◌∙◌}
use native.Mathlib.Omega.{arith}
use borrow.Author.Tests.{eqb-true, eqb-false, ne_eqb}
use Rattle.pixels.specs.Channels.{exceeds_at}
use Rattle.counting.specs.Counts.{how_many}
use Rattle.counting.proofs.Counted.{fewer_none, all_none}
use Rattle.counting.proofs.none.none_exceeds.Goals as goal

pub returns-then-n-eq0 : goal.returns-then-n-eq0
unfolding how_many
returns-then-n-eq0 c = all_none (exceeds_at c.args.picture.now) {i = 0} (sym c.if-n-eq0.true) refl

pub none_in_rest-requires : goal.none_in_rest-requires
none_in_rest-requires c = record { fact_1 = omega arith; fact_2 = omega arith; fact_3 = eqb-true _ 0 (sym c.none_in_blocks.ensures ∙ c.if-none_in_blocks.true) }

pub returns : goal.returns
returns c =
    let a = c.args in
    sym
    (ne_eqb _ 0
    (λ e. eqb-false _ 0 (sym c.none_in_blocks.ensures ∙ c.if-none_in_blocks.false) (fewer_none (exceeds_at a.picture.now) _ a.n (omega arith) e)))
