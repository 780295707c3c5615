use mathlib.Core.Path.{◌≡◌, refl, ◌∙◌}
use Prim.Native.Nat.{◌+◌, ◌*◌}
use native.Mathlib.Omega.{arith}
use Rattle.pixels.specs.Channels.{exceeds_at}
use Rattle.counting.specs.Counts.{how_many}
use Rattle.counting.proofs.Counted.{many_le, many_split}
use Rattle.counting.proofs.counter.count_blocks.Goals as goal
use Rattle.counting.proofs.counter.count_blocks.Goals.{After-count_block}

pub loop-block-init : goal.loop-block-init
unfolding how_many
loop-block-init c = (refl, omega arith)

-- with the block
more : (c : After-count_block) →
    c.loop-block.count + c.count_block.result ≡ how_many (exceeds_at c.args.picture.now) (32 * (c.loop-block.block + 1))
more c =
    let next : 32 * (c.loop-block.block + 1) ≡ 32 * c.loop-block.block + 32 = omega arith in
    rw (next, many_split (exceeds_at c.args.picture.now) (32 * c.loop-block.block) 32, ← c.loop-block.invariant.0, c.count_block.ensures, c.loop-block.invariant.1)

pub overflow_add-count : goal.overflow_add-count
overflow_add-count c =
    let call = (goal.at.overflow_add-count c).After-count_block in
    omega (arith, more call, many_le (exceeds_at c.args.picture.now) (32 * (c.loop-block.block + 1)))

pub loop-block-preserved : goal.loop-block-preserved
loop-block-preserved c =
    let call = (goal.at.loop-block-preserved c).After-count_block in
    (more call, omega (arith, c.count_block.auto.words, c.loop-block.invariant.1))

pub returns : goal.returns
returns c =
    let e : 32 * c.loop-block.block ≡ c.args.n = omega arith in
    c.loop-block.invariant.0 ∙ rw e

pub count_block-requires : goal.count_block-requires
count_block-requires c = record { fact_1 = omega arith; fact_2 = omega arith }
