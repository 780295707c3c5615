use mathlib.Core.Path.{◌≡◌, refl, sym, ◌∙◌}
use Prim.Native.Nat.{◌+◌, ◌*◌}
use native.Mathlib.Omega.{arith}
use borrow.Author.Tests.{ne_eqb}
use Rattle.pixels.specs.Channels.{exceeds_at}
use Rattle.counting.specs.Counts.{how_many}
use Rattle.counting.proofs.Counted.{none_many, none_more, all_none}
use Rattle.counting.proofs.Joined.{block_passes, passes_block}
use Rattle.counting.proofs.none.none_in_blocks.Goals as goal

pub loop-block-init : goal.loop-block-init
unfolding how_many
loop-block-init c = refl

-- a block that has one that fails
pub returns-then-over_block-ne0 : goal.returns-then-over_block-ne0
returns-then-over_block-ne0 c =
    let a = c.args in
    let p = a.picture.now in
    sym
    (ne_eqb _ 0
    (λ e. c.if-over_block-ne0.true (c.over_block.ensures ∙ passes_block p (32 * c.loop-block.block) 32 (λ k m. none_many (exceeds_at p) a.n e (32 * c.loop-block.block + k) (omega arith)))))

-- and one that has none
pub loop-block-preserved : goal.loop-block-preserved
loop-block-preserved c =
    let p = c.args.picture.now in
    let block = block_passes p (32 * c.loop-block.block) 32 (sym c.over_block.ensures ∙ c.if-over_block-ne0.false) in
    let next : 32 * (c.loop-block.block + 1) ≡ 32 * c.loop-block.block + 32 = omega arith in
    rw next (none_more (exceeds_at p) (32 * c.loop-block.block) 32 c.loop-block.invariant block)

pub returns : goal.returns
returns c =
    all_none (exceeds_at c.args.picture.now) {n = c.args.n} (omega arith) c.loop-block.invariant
