use mathlib.Core.Path.{ap, ◌∙◌}
use Prim.Native.Nat.{ℕ}
use native.Mathlib.Omega.{arith}
use lib.ListN.{get_or}
use Rattle.composite.specs.Plane.{through}
use Rattle.picture.proofs.Filled.{fills_none, fills_still, fills_more, fills_build}
use Rattle.composite.proofs.pass_through.Goals as goal

pub bounds-table-from : goal.bounds-table-from
bounds-table-from c = omega (arith, (c.slice_known-1.given c.loop-alpha.alpha-index).fits)

pub loop-alpha-preserved : goal.loop-alpha-preserved
loop-alpha-preserved c =
    let s = c.args in
    fills_more c.loop-alpha.invariant (omega arith) (ap (λ (k : ℕ). get_or s.table.now k 0) (c.from.ensures ∙ fills_still c.loop-alpha.invariant))

pub returns : goal.returns
unfolding through
returns c = fills_build c.loop-alpha.invariant (omega arith)

pub loop-alpha-init : goal.loop-alpha-init
loop-alpha-init c = fills_none
