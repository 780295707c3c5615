use mathlib.Core.Path.{◌≡◌, refl, ◌∙◌}
use Prim.Native.Nat.{◌+◌, ◌*◌, ◌/◌, ◌≤◌, ◌<◌}
use native.Mathlib.Omega.{arith}
use lib.ListN.{length}
use Rattle.picture.proofs.Sizes.{area}
use Rattle.pixels.specs.Channels.{exceeds_at}
use Rattle.pixels.proofs.Painting.{begins}
use Rattle.counting.specs.Counts.{how_many}
use Rattle.mending.specs.Changes.{changes_below, laid_entries}
use Rattle.mending.proofs.Lowered.{mended_is}
use Rattle.mending.proofs.Listed.{turn_room, turn_more}
use Rattle.mending.proofs.mender.mend_pixels.Goals as goal
use Rattle.mending.proofs.mender.mend_pixels.Goals.{In-loop-i}
use Rattle.mending.proofs.mender.mend_pixels.Lts as lts
use Rattle.mending.proofs.mender.mend_pixels.Reads as reads
use Rattle.mending.proofs.mender.mend_pixels.Tie as tie

abbrev the_After-bytes-n : Type 0
the_After-bytes-n = lts.After-bytes tie.the-claims reads.Pre reads.Post goal.the-invariant-loop-i goal.the-decreases-loop-i tie.handed_clauses

pub bytes-n-requires : goal.bytes-n-requires
bytes-n-requires c = c.requires.fact_1.sized

-- the loop's end is the number of pixels
all : (c : the_After-bytes-n) → let a = c.args in c.bytes-n.result / 4 ≡ a.size.w * a.size.h
all c = omega (arith, c.bytes-n.ensures)

-- what a turn asks: the pixel lies inside, its place fits a word, and the list has room for all
module _ (c : In-loop-i) where
  abbrev start : the_After-bytes-n
  start = c.before.before

  inside : 4 * c.loop-i.i + 4 ≤ length c.loop-i.picture
  inside = omega (arith, all start, c.requires.fact_1.exact, c.loop-i.invariant.painting.run.size)

  small : c.loop-i.i < 4294967296
  small = omega (arith, all start, area c.requires.fact_1.sized)

  fits : how_many (exceeds_at c.args.picture.now) (c.bytes-n.result / 4) ≤ length c.args.list.now
  fits = rw (all start) c.requires.fact_2

pub loop-i-init : goal.loop-i-init
unfolding how_many changes_below laid_entries
loop-i-init c = record { painting = begins; counted = refl; listing = refl; room = refl }

pub mend_one-k-requires : goal.mend_one-k-requires
mend_one-k-requires c =
    let at = (goal.at.mend_one-k-requires c).In-loop-i in
    record { fact_1 = inside at; fact_2 = small at; fact_3 = turn_room c.loop-i.invariant (omega arith) (fits at) }

pub loop-i-preserved : goal.loop-i-preserved
loop-i-preserved c =
    let at = (goal.at.loop-i-preserved c).In-loop-i in
    turn_more c.loop-i.invariant (omega arith) (fits at) (inside at) c.mend_one-k.ensures.value c.mend_one-k.ensures.picture_after c.mend_one-k.ensures.list_after c.mend_one-k.auto.list

pub shape_of-picture : goal.shape_of-picture
shape_of-picture c = c.loop-i.invariant.painting.run.size

pub shape_of-list : goal.shape_of-list
shape_of-list c = c.loop-i.invariant.room

pub returns : goal.returns
returns c =
    let t = c.loop-i.invariant in
    let start = c.before.before in
    let w = c.args.size.w in
    let done : c.loop-i.i ≡ w * c.args.size.h = omega (arith, all start, t.painting.count) in
    record { picture_after = mended_is w c.args.size.h c.args.picture.now t.painting done c.requires.fact_1.exact; list_after = t.listing ∙ rw done }
