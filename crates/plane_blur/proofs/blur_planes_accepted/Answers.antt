-- The scratch's first part is lent to the blur, comes back, and is cleared.
use mathlib.Core.Path.{sym, ◌∙◌}
use Prim.Native.Nat.{◌≤◌}
use native.Mathlib.Omega.{arith}
use lib.ListN.{length}
use lib.Seq.{length-take-le, length_front}
use Rattle.gaussian_blur.proofs.Outcomes.{lent_cleared}
use Rattle.plane_blur.proofs.blur_planes_accepted.Goals as goal
use Rattle.plane_blur.proofs.blur_planes_accepted.Goals.{After-bytes-k}

pub bytes-k-requires : goal.bytes-k-requires
bytes-k-requires c = c.requires.pictured.sized

-- what the picture takes lies within the scratch
k-fits : (c : After-bytes-k) → c.bytes-k.result ≤ length c.args.scratch.now
k-fits c = let r = c.requires in omega (arith, c.bytes-k.ensures, r.room)

pub slice_bounds-apply_blur_planes-end : goal.slice_bounds-apply_blur_planes-end
slice_bounds-apply_blur_planes-end c = k-fits (goal.at.slice_bounds-apply_blur_planes-end c).After-bytes-k

pub slice_bounds-apply_blur_planes-end-2 : goal.slice_bounds-apply_blur_planes-end-2
slice_bounds-apply_blur_planes-end-2 c = sym (length-take-le _ _ (k-fits (goal.at.slice_bounds-apply_blur_planes-end-2 c).After-bytes-k))

pub apply_blur_planes-requires : goal.apply_blur_planes-requires
apply_blur_planes-requires c =
    let r = c.requires in
    record { pictured = r.pictured; scratch_is = length-take-le _ _ (k-fits (goal.at.apply_blur_planes-requires c).After-bytes-k) ∙ c.bytes-k.ensures; kernel = r.kernel }

pub clear-requires : goal.clear-requires
clear-requires c =
    let a = c.args in
    omega (arith, length_front a.scratch.now c.apply_blur_planes.new.scratch c.bytes-k.result c.apply_blur_planes.auto.scratch, k-fits (goal.at.clear-requires c).After-bytes-k)

pub returns : goal.returns
returns c =
    lent_cleared c.args.scratch.now c.apply_blur_planes.new.scratch c.bytes-k.ensures c.requires.room c.apply_blur_planes.auto.scratch c.apply_blur_planes.ensures c.clear.ensures
