-- A failing pixel is listed and lowered; another one stays, and no entry is written.
use mathlib.Core.Path.{◌≡◌, sym, ap, ◌∙◌}
use native.Mathlib.Omega.{arith}
use Rattle.pixels.specs.Pixels.{pixel_at, with_pixel}
use Rattle.pixels.specs.Channels.{exceeds, exceeds_at}
use Rattle.mending.proofs.Lowered.{kept, same_pixel}
use Rattle.mending.proofs.mender.mend_one.Goals as goal
use Rattle.mending.proofs.mender.mend_one.Goals.{After-exceeds}

-- the test is the definition's
tested : (c : After-exceeds) → let a = c.args in exceeds_at a.picture.now a.i ≡ c.exceeds.result
tested c = sym (c.exceeds.ensures ∙ ap exceeds c.pixel_at-p.ensures)

pub bounds-list-k : goal.bounds-list-k
bounds-list-k c =
    omega (arith, rw (tested (goal.at.bounds-list-k c).After-exceeds ∙ c.if-exceeds.true) at c.requires.fact_3)

pub returns-then-exceeds : goal.returns-then-exceeds
returns-then-exceeds c =
    let pixel = c.pixel_at-p.ensures in
    let fails = tested (goal.at.returns-then-exceeds c).After-exceeds ∙ c.if-exceeds.true in
    record { value = rw fails; picture_after = c.set_pixel.ensures ∙ rw (c.lower.ensures, pixel); list_after = rw (fails, c.pack.ensures, pixel) }

pub returns : goal.returns
returns c =
    let a = c.args in
    let passes = tested (goal.at.returns c).After-exceeds ∙ c.if-exceeds.false in
    record {
      value = rw passes (omega arith);
      picture_after = sym (ap (with_pixel a.picture.now a.i) (kept (pixel_at a.picture.now a.i) passes) ∙ same_pixel a.picture.now a.i);
      list_after = rw passes;
    }
