-- The scratch's first part is lent to the blur, comes back, and is cleared.
use mathlib.Core.Path.{sym, ◌∙◌}
use Prim.Native.Nat.{◌≤◌}
use native.Mathlib.Omega.{arith}
use lib.ListN.{length}
use lib.Seq.{length-take-le}
use Rattle.gaussian_blur.proofs.Outcomes.{lent_cleared}
use Rattle.whole_blur.proofs.whole_accepted.Goals as goal
use Rattle.whole_blur.proofs.whole_accepted.Goals.{After-bytes-k}

-- what the picture takes lies within the scratch
k_fits : (b : After-bytes-k) → b.bytes-k.result ≤ length b.args.scratch.now
k_fits b = omega (arith, b.bytes-k.ensures, b.requires.room)

pub apply_whole-requires : goal.apply_whole-requires
apply_whole-requires c =
    let b = (goal.at.apply_whole-requires c).After-bytes-k in
    let r = c.requires in
    rw c.level_zero.ensures record { pictured = r.pictured; scratch_is = length-take-le _ _ (k_fits b) ∙ c.bytes-k.ensures; kernel = r.kernel }

pub returns : goal.returns
returns c =
    lent_cleared c.args.scratch.now c.apply_whole.new.scratch c.bytes-k.ensures c.requires.room c.apply_whole.auto.scratch (rw c.level_zero.ensures at c.apply_whole.ensures) c.clear.ensures

pub slice_bounds-apply_whole-end-2 : goal.slice_bounds-apply_whole-end-2
slice_bounds-apply_whole-end-2 c = sym (length-take-le _ _ (k_fits (goal.at.slice_bounds-apply_whole-end-2 c).After-bytes-k))
