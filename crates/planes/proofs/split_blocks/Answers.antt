use mathlib.Core.Path.{◌≡◌, refl, ◌∙◌}
use Prim.Native.Nat.{◌+◌, ◌-◌, ◌*◌, ◌/◌}
use native.Mathlib.Omega.{arith}
use Rattle.planes.proofs.Forms.{in_planes, in_picture, ready}
use Rattle.planes.proofs.Blocks.{blocks_begin, blocks_end}
use Rattle.planes.proofs.split_blocks.Goals as goal

pub carry-requires : goal.carry-requires
carry-requires c = rw c.planes.ensures (ready (in_picture _) (in_planes _) c.requires.fact_1 (omega arith) (omega arith) (λ j l. absurd (omega arith)))

pub loop-block-init : goal.loop-block-init
loop-block-init c = (refl, c.requires.fact_2, blocks_begin c.args.n c.args.src.now c.carry.new.dst (rw c.planes.ensures at c.carry.ensures))

pub split_block-requires : goal.split_block-requires
split_block-requires c = let whole = c.requires.fact_1 in record { fact_1 = record { few = whole.few; source = whole.source; room = c.loop-block.invariant.0 ∙ c.carry.auto.dst ∙ whole.room }; fact_2 = c.loop-block.invariant.1; fact_3 = omega arith; fact_4 = c.loop-block.invariant.2 }

pub loop-block-preserved : goal.loop-block-preserved
loop-block-preserved c =
    let made = c.split_block in
    let next : 48 + 64 * (c.loop-block.block + 1) ≡ 48 + 64 * c.loop-block.block + 64 = omega arith in
    (made.auto.dst ∙ c.loop-block.invariant.0, made.auto.parts ∙ c.loop-block.invariant.1, rw next made.ensures)

pub returns : goal.returns
returns c =
    let all : c.loop-block.block ≡ c.args.n / 64 - 1 = omega arith in
    (omega arith, rw (← all) (blocks_end c.args.n c.args.src.now c.loop-block.dst (48 + 64 * c.loop-block.block) c.loop-block.invariant.2))

pub returns-then-n-lt64 : goal.returns-then-n-lt64
returns-then-n-lt64 c = (omega arith, λ j l. absurd (omega arith))
