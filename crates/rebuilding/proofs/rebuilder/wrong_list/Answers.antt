use mathlib.Core.Path.{◌≡◌, ◌∙◌}
use mathlib.Core.Bool.{◌&&◌}
use Prim.Native.Nat.{◌+◌}
use native.Mathlib.Omega.{arith}
use borrow.Author.Tests.{lt-leb, le-leb, lt-ltb, le-ltb}
use lib.Dec.{ltb, leb}
use lib.ListN.{length, drop}
use lib.Seq.{drop-length}
use Rattle.rebuilding.specs.Restored.{rising}
use Rattle.rebuilding.specs.Outcome.{wrong_list}
use Rattle.rebuilding.proofs.Rising.{rising_at}
use Rattle.rebuilding.proofs.rebuilder.wrong_list.Goals as goal
use Rattle.rebuilding.proofs.rebuilder.wrong_list.Goals.{After-place-place, then-place-next-via-then-place-next, then-place-next-via-else-place-next+then-area-place}

-- the tests of the entry that is next
onward : (c : After-place-place) →
    let a = c.args in
    let place = c.place-place.result in
    let i = c.loop-entry.entry-index in
    rising 0 a.area a.list.now ≡ (leb c.loop-entry.next place && (ltb place a.area && rising (place + 1) a.area (drop (i + 1) a.list.now)))
onward c =
    rw c.place-place.ensures (c.loop-entry.invariant ∙ rising_at c.loop-entry.next c.args.area c.args.list.now c.loop-entry.entry-index (omega arith))

pub returns-then-place-next : goal.returns-then-place-next
unfolding wrong_list
returns-then-place-next c =
    elim c.then-place-next.branch [
      | then-place-next-via-then-place-next w ↦ rw (onward (goal.at.returns-then-place-next c).After-place-place, lt-leb _ _ w.if-place-next.true)
      | then-place-next-via-else-place-next+then-area-place w ↦
          rw (onward (goal.at.returns-then-place-next c).After-place-place, le-leb _ _ w.if-place-next.false, le-ltb _ _ w.if-area-place.true)
    ]

pub loop-entry-preserved : goal.loop-entry-preserved
loop-entry-preserved c =
    onward (goal.at.loop-entry-preserved c).After-place-place ∙ rw (le-leb _ _ c.if-place-next.false, lt-ltb _ _ c.if-area-place.false)

pub returns : goal.returns
unfolding wrong_list rising
returns c =
    let e : c.loop-entry.entry-index ≡ length c.args.list.now = omega arith in
    rw (c.loop-entry.invariant, e, drop-length c.args.list.now)
