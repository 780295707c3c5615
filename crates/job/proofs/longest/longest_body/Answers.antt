use mathlib.Core.Path.{◌≡◌, refl, ◌∙◌, ap}
use Prim.Native.Nat.{max}
use native.Mathlib.Numerals.{add-one}
use native.Mathlib.Omega.{arith}
use Rattle.job.specs.Job.{longest_below}
use Rattle.job.proofs.longest.longest_body.Goals as goal

pub loop-i-init : goal.loop-i-init
unfolding longest_below
loop-i-init c = refl

pub loop-i-preserved : goal.loop-i-preserved
unfolding longest_below
loop-i-preserved c =
    let e : c.max-longest.result ≡ max c.loop-i.longest c.read_entry-e.result.length = c.max-longest.ensures in
    e ∙ rw (add-one, c.loop-i.invariant, c.read_entry-e.ensures)

pub returns : goal.returns
returns c =
    c.loop-i.invariant ∙ ap (longest_below _) (omega (arith, c.count-n.ensures))
