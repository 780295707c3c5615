use mathlib.Core.Path.{◌≡◌, refl, ◌∙◌}
use Prim.Native.Nat.{◌+◌, ◌*◌, ◌/◌}
use native.Mathlib.Omega.{arith}
use Rattle.planes.proofs.Blocks.{joined_more}
use Rattle.planes.proofs.join_blocks.Goals as goal

pub loop-block-preserved : goal.loop-block-preserved
loop-block-preserved c =
    let next : 64 * (c.loop-block.block + 1) ≡ 64 * c.loop-block.block + 64 = omega arith in
    (c.put_together.auto.dst ∙ c.loop-block.invariant.0, rw next (joined_more c.args.n (64 * c.loop-block.block) c.args.src.now _ _ c.put_together.ensures c.loop-block.invariant.1))

pub put_together-requires : goal.put_together-requires
put_together-requires c = record { fact_1 = omega arith; fact_2 = c.requires.source; fact_3 = c.loop-block.invariant.0 ∙ c.requires.room }

pub loop-block-init : goal.loop-block-init
loop-block-init c = (refl, λ j l. absurd (omega arith))

pub returns : goal.returns
returns c =
    let all : c.loop-block.block ≡ c.args.n / 64 = omega arith in
    (omega arith, rw (← all) c.loop-block.invariant.1)
