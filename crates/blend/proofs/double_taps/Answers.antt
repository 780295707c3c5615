-- The two places are doubling's samples.
use mathlib.Core.Path.{◌∙◌}
use native.Mathlib.Omega.{arith}
use Rattle.picture.proofs.Sizes.{room_is}
use Rattle.edges.specs.Edges.{Below}
use Rattle.passes.specs.Written.{lane}
use Rattle.blend.proofs.Places.{placed}
use Rattle.blend.proofs.Tapped.{offset_fits, taps_fit, taps_mix}
use Rattle.blend.proofs.Outputs.{doubled}
use Rattle.blend.proofs.double_taps.Goals as goal
use Rattle.blend.proofs.double_taps.Goals.{After-extend-near}

-- the places found are elements of the line, or outside
found : (c : After-extend-near) →
    let len = c.args.len in Below c.extend-far.result len × Below c.extend-near.result len
found c =
    let a = c.args in
    let z = c.requires.1.len_low in
    (placed a.mode a.len _ _ z c.extend-far.ensures, placed a.mode a.len _ _ z c.extend-near.ensures)

pub taps_of-requires : goal.taps_of-requires
taps_of-requires c =
    let r = c.requires.1 in
    let far = offset_fits c.extend-far.result r (found c).0 in
    let near = offset_fits c.extend-near.result r (found c).1 in
    (far, near, near, far)

pub returns : goal.returns
returns c =
    let e2 = c.before in
    let a = c.args in
    let far = (found e2).0 in
    let near = (found e2).1 in
    let p = c.extend-far.result in
    let q = c.extend-near.result in
    record {
      fit = taps_fit p q q p a.stride c.taps_of.ensures a.len c.requires.1.len_low far near near far;
      value = λ src start k.
          taps_mix p q q p a.stride c.taps_of.ensures src start k
          ∙ doubled a.mode a.len a.y (lane src start a.stride k) c.extend-far.ensures c.extend-near.ensures;
    }

pub extend-far-requires : goal.extend-far-requires
extend-far-requires c = omega (arith, room_is)

pub extend-near-requires : goal.extend-near-requires
extend-near-requires c = omega (arith, room_is)
