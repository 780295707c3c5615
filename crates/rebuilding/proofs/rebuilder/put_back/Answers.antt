use mathlib.Core.Path.{◌≡◌, sym, ◌∙◌}
use native.Mathlib.Omega.{arith}
use lib.ListN.{length}
use lib.Seq.{drop-length}
use Rattle.rebuilding.specs.Restored.{restored}
use Rattle.rebuilding.proofs.Rising.{rising_inside}
use Rattle.rebuilding.proofs.Restores.{restored_at}
use Rattle.rebuilding.proofs.rebuilder.put_back.Goals as goal

pub set_pixel-requires : goal.set_pixel-requires
set_pixel-requires c =
    omega (arith, c.place.ensures, rising_inside 0 c.args.area c.args.list.now c.requires.fact_2 c.loop-entry.entry-index (omega arith), c.requires.fact_1, c.loop-entry.invariant.1)

pub loop-entry-preserved : goal.loop-entry-preserved
loop-entry-preserved c =
    (c.loop-entry.invariant.0 ∙ restored_at c.args.list.now c.loop-entry.picture c.loop-entry.entry-index (omega arith) ∙ rw (c.set_pixel.ensures, c.unpack.ensures, c.place.ensures), c.set_pixel.auto.bytes ∙ c.loop-entry.invariant.1)

pub returns : goal.returns
unfolding restored
returns c =
    let list = c.args.list.now in
    let e : c.loop-entry.entry-index ≡ length list = omega arith in
    sym (c.loop-entry.invariant.0 ∙ rw (e, drop-length list))
