-- The four elements blended are halving's samples.
use Rattle.std.proofs.Common.{Some}
use mathlib.Core.Path.{◌∙◌}
use Prim.Native.Nat.{◌+◌, ◌-◌, ◌*◌, ◌≤◌}
use native.Mathlib.Omega.{arith}
use lib.ListN.{length}
use Rattle.picture.proofs.Spans.{within, span_same}
use Rattle.passes.specs.Passes.{halve}
use Rattle.passes.specs.Written.{lane}
use Rattle.passes.proofs.Written.{element_made}
use Rattle.blend.proofs.Tapped.{taps_fit, taps_mix, taps_room}
use Rattle.blend.proofs.Outputs.{halved_inside}
use Rattle.blend.proofs.halve_lanes.Goals as goal
use Rattle.blend.proofs.halve_lanes.Goals.{Start}

-- the output lies within the buffer
room : (st : Start) → st.args.o + st.args.x * st.args.stride + st.args.stride ≤ length st.args.dst.now
room st = omega (arith, within st.args.o st.args.stride st.args.x (st.args.x + 1) (omega arith), st.requires.2.dst_ends)

pub blend_lanes-requires : goal.blend_lanes-requires
blend_lanes-requires c =
    let st = c.before.before.before.before.before in
    let a = c.args in
    let at = 2 * a.x in
    taps_room
    (taps_fit (Some (at - 1)) (Some at) (Some (at + 1)) (Some (at + 2)) a.stride c.taps_of-t.ensures a.len (omega arith) (omega arith) (omega arith) (omega arith) (omega arith))
    c.requires.2.src_ends
    (room st)

pub returns : goal.returns
returns c =
    let a = c.args in
    let src = a.src.now in
    let at = 2 * a.x in
    λ mode.
    element_made (halve mode) src a.start a.len a.stride a.x
    (span_same c.blend_lanes.ensures
    (λ k _ _.
    taps_mix (Some (at - 1)) (Some at) (Some (at + 1)) (Some (at + 2)) a.stride c.taps_of-t.ensures src a.start k
    ∙ halved_inside mode a.len a.x (lane src a.start a.stride k) c.requires.0 c.requires.1))
