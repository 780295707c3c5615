-- The four places are halving's samples.
use mathlib.Core.Path.{◌∙◌}
use native.Mathlib.Omega.{arith}
use Rattle.picture.proofs.Sizes.{room_is}
use Rattle.edges.specs.Edges.{Below}
use Rattle.passes.specs.Written.{lane}
use Rattle.blend.proofs.Places.{placed}
use Rattle.blend.proofs.Tapped.{offset_fits, taps_fit, taps_mix}
use Rattle.blend.proofs.Outputs.{halved}
use Rattle.blend.proofs.halve_taps.Goals as goal
use Rattle.blend.proofs.halve_taps.Goals.{After-extend-d}

-- the places found are elements of the line, or outside
found : (c : After-extend-d) →
    let len = c.args.len in
    Below c.extend-a.result len × Below c.extend-b.result len × Below c.extend-c.result len × Below c.extend-d.result len
found c =
    let a = c.args in
    let z = c.requires.1.len_low in
    (placed a.mode a.len _ _ z c.extend-a.ensures, placed a.mode a.len _ _ z c.extend-b.ensures, placed a.mode a.len _ _ z c.extend-c.ensures, placed a.mode a.len _ _ z c.extend-d.ensures)

pub taps_of-requires : goal.taps_of-requires
taps_of-requires c =
    let r = c.requires.1 in
    let f = found c in
    (offset_fits c.extend-a.result r f.0, offset_fits c.extend-b.result r f.1, offset_fits c.extend-c.result r f.2, offset_fits c.extend-d.result r f.3)

pub returns : goal.returns
returns c =
    let e4 = c.before in
    let a = c.args in
    let f = found e4 in
    let p = c.extend-a.result in
    let q = c.extend-b.result in
    let r = c.extend-c.result in
    let s = c.extend-d.result in
    record {
      fit = taps_fit p q r s a.stride c.taps_of.ensures a.len c.requires.1.len_low f.0 f.1 f.2 f.3;
      value = λ src start k.
          taps_mix p q r s a.stride c.taps_of.ensures src start k
          ∙ halved a.mode a.len a.x (lane src start a.stride k) c.extend-a.ensures c.extend-b.ensures c.extend-c.ensures c.extend-d.ensures;
    }

pub overflow_mul-at : goal.overflow_mul-at
overflow_mul-at c = omega (arith, room_is)

pub extend-a-requires : goal.extend-a-requires
extend-a-requires c = omega (arith, room_is)

pub extend-b-requires : goal.extend-b-requires
extend-b-requires c = omega (arith, room_is)

pub overflow_add-at : goal.overflow_add-at
overflow_add-at c = omega (arith, room_is)

pub extend-c-requires : goal.extend-c-requires
extend-c-requires c = omega (arith, room_is)

pub overflow_add-at-2 : goal.overflow_add-at-2
overflow_add-at-2 c = omega (arith, room_is)

pub extend-d-requires : goal.extend-d-requires
extend-d-requires c = omega (arith, room_is)
