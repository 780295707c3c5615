use mathlib.Core.Path.{refl}
use native.Mathlib.Omega.{arith}
use Rattle.composite.specs.Plane.{alphas_in}
use Rattle.picture.proofs.Filled.{fills_none, fills_more, fills_build}
use Rattle.composite.proofs.take_alphas.Goals as goal

pub loop-i-preserved : goal.loop-i-preserved
loop-i-preserved c = fills_more c.loop-i.invariant (omega arith) refl

pub returns : goal.returns
unfolding alphas_in
returns c = fills_build c.loop-i.invariant (omega arith)

pub loop-i-init : goal.loop-i-init
loop-i-init c = fills_none
