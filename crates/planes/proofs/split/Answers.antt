-- What the blocks left is carried.
use mathlib.Core.Path.{◌≡◌, ◌∙◌}
use Prim.Native.Nat.{◌*◌, ◌/◌}
use native.Mathlib.Omega.{arith}
use borrow.Author.Rules.{rules}
use Rattle.planes.proofs.Forms.{in_planes, in_picture, counted, ready, split_whole}
use Rattle.planes.proofs.split.Goals as goal

pub split_blocks-m-requires : goal.split_blocks-m-requires
split_blocks-m-requires c = record { fact_1 = counted c.args.size _ _ _ c.requires c.bytes-n.ensures; fact_2 = search rules }

pub carry-requires : goal.carry-requires
carry-requires c =
    let whole = counted c.args.size _ _ _ c.requires c.bytes-n.ensures in
    rw c.planes.ensures (ready (in_picture _) (in_planes _) (record { few = whole.few; source = whole.source; room = c.split_blocks-m.auto.dst ∙ whole.room }) c.split_blocks-m.ensures.0 (omega arith) c.split_blocks-m.ensures.1)

pub returns : goal.returns
returns c =
    let is : c.bytes-n.result / 4 ≡ c.args.size.w * c.args.size.h = omega (arith, c.bytes-n.ensures) in
    let room = (counted c.args.size _ _ _ c.requires c.bytes-n.ensures).room in
    split_whole _ _ _ _ _ is (c.carry.auto.dst ∙ c.split_blocks-m.auto.dst ∙ room) (rw c.planes.ensures at c.carry.ensures)
