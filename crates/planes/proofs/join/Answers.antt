-- What the blocks left is carried.
use mathlib.Core.Path.{◌≡◌, ◌∙◌}
use Prim.Native.Nat.{◌*◌, ◌/◌}
use native.Mathlib.Omega.{arith}
use Rattle.planes.proofs.Forms.{in_planes, in_picture, counted, ready, join_whole}
use Rattle.planes.proofs.join.Goals as goal

pub join_blocks-m-requires : goal.join_blocks-m-requires
join_blocks-m-requires c = counted c.args.size _ _ _ c.requires c.bytes-n.ensures

pub carry-requires : goal.carry-requires
carry-requires c =
    let whole = counted c.args.size _ _ _ c.requires c.bytes-n.ensures in
    rw c.planes.ensures (ready (in_planes _) (in_picture _) (record { few = whole.few; source = whole.source; room = c.join_blocks-m.auto.dst ∙ whole.room }) c.join_blocks-m.ensures.0 (omega arith) c.join_blocks-m.ensures.1)

pub returns : goal.returns
returns c =
    let is : c.bytes-n.result / 4 ≡ c.args.size.w * c.args.size.h = omega (arith, c.bytes-n.ensures) in
    let room = (counted c.args.size _ _ _ c.requires c.bytes-n.ensures).room in
    join_whole _ _ _ _ _ is (c.carry.auto.dst ∙ c.join_blocks-m.auto.dst ∙ room) (rw c.planes.ensures at c.carry.ensures)
