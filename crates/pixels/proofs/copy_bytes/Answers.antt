use mathlib.Core.Path.{refl}
use native.Mathlib.Omega.{arith}
use Rattle.picture.proofs.Filled.{fills_none, fills_more, fills_all}
use Rattle.pixels.proofs.copy_bytes.Goals as goal

pub loop-i-init : goal.loop-i-init
loop-i-init c = fills_none

pub loop-i-preserved : goal.loop-i-preserved
loop-i-preserved c = fills_more c.loop-i.invariant (omega arith) refl

pub returns : goal.returns
returns c = fills_all c.loop-i.invariant c.args.from.now (omega arith) c.requires (λ k h. refl)
