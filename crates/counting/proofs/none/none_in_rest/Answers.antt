use mathlib.Core.Path.{◌≡◌, sym, ap, ◌∙◌}
use native.Mathlib.Omega.{arith}
use Rattle.pixels.specs.Channels.{exceeds, exceeds_at}
use Rattle.counting.proofs.Counted.{many_more, some_many, all_none}
use Rattle.counting.proofs.none.none_in_rest.Goals as goal
use Rattle.counting.proofs.none.none_in_rest.Goals.{After-exceeds}

-- what the test says of the pixel
told : (c : After-exceeds) → c.exceeds.result ≡ exceeds_at c.args.picture.now c.loop-i.i
told c = c.exceeds.ensures ∙ ap exceeds c.pixel_at.ensures

pub returns-then-exceeds : goal.returns-then-exceeds
returns-then-exceeds c =
    let a = c.args in
    sym (some_many (exceeds_at a.picture.now) a.n c.loop-i.i (omega arith) (sym (told (goal.at.returns-then-exceeds c).After-exceeds) ∙ c.if-exceeds.true))

pub loop-i-preserved : goal.loop-i-preserved
loop-i-preserved c =
    let test = exceeds_at c.args.picture.now in
    many_more test c.loop-i.i ∙ rw (c.loop-i.invariant, sym (told (goal.at.loop-i-preserved c).After-exceeds) ∙ c.if-exceeds.false)

pub returns : goal.returns
returns c =
    all_none (exceeds_at c.args.picture.now) {n = c.args.n} (omega arith) c.loop-i.invariant
