use mathlib.Core.Path.{◌≡◌, refl, sym, ap₂, ◌∙◌}
use native.Mathlib.Omega.{arith}
use lib.Bits.{bit_or}
use Rattle.counting.specs.Over.{over_first, joined}
use Rattle.counting.proofs.Joined.{joined_more}
use Rattle.counting.proofs.none.over_block.Goals as goal

pub loop-j-init : goal.loop-j-init
unfolding joined
loop-j-init c = refl

pub loop-j-preserved : goal.loop-j-preserved
loop-j-preserved c =
    let a = c.args in
    ap₂ bit_or c.loop-j.invariant c.over_first-all.ensures ∙ sym (joined_more (over_first a.picture.now a.from) c.loop-j.j)

pub returns : goal.returns
returns c =
    let e : c.loop-j.j ≡ 128 = omega arith in
    c.loop-j.invariant ∙ rw e
