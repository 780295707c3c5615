use native.Mathlib.Omega.{arith}
use Rattle.picture.proofs.Filled.{fills_none, fills_more, fills_build}
use Rattle.composite.proofs.alpha_table.Goals as goal

pub loop-i-preserved : goal.loop-i-preserved
loop-i-preserved c =
    fills_more c.loop-i.invariant (omega arith) c.shadow_alpha.ensures

pub returns : goal.returns
returns c = rw (← c.requires.fact_1) (fills_build c.loop-i.invariant (omega arith))

pub loop-i-init : goal.loop-i-init
loop-i-init c = fills_none
