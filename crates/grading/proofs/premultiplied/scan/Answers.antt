-- A place that passes is left behind, one that fails is the answer, and past the last there is none.
use mathlib.Core.Path.{◌≡◌, ◌∙◌, sym, ap}
use Prim.Native.Nat.{ℕ, ◌+◌, ◌*◌, ◌<◌, ◌≤◌}
use native.Mathlib.Nat.{zero-mul, add_assoc, mul_comm, mul-le-mul_right}
use native.Mathlib.Omega.{arith}
use Rattle.picture.proofs.Planes.{pixel_fits}
use Rattle.pixels.specs.Channels.{exceeds, exceeds_at}
use Rattle.grading.specs.Premultiplied.{Finding, scanned}
use Rattle.grading.proofs.Places.{start, past, stops, ends}
use Rattle.grading.proofs.premultiplied.scan.Goals as goal
use Rattle.grading.proofs.premultiplied.scan.Goals.{After-height-h, After-exceeds}

-- what is found is that of the size's sides
for-size : (c : After-height-h) {f : Finding} → f ≡ scanned c.args.picture.now c.width-w.result c.height-h.result → let size = c.args.size in f ≡ scanned c.args.picture.now size.w size.h
for-size c e = rw (← c.width-w.ensures, ← c.height-h.ensures) e

pub loop-y-init : goal.loop-y-init
loop-y-init c = rw zero-mul (start c.args.picture.now c.width-w.result c.height-h.result)

-- in a turn: the place, which lies within the picture, and the test, which is the definition's there
module _ (c : After-exceeds) where
  abbrev pub place : ℕ
  place = c.loop-y.y * c.width-w.result + c.loop-x.x

  abbrev pub many : ℕ
  many = c.width-w.result * c.height-h.result

  pub within : place < many
  within = omega (arith, pixel_fits c.width-w.result c.height-h.result c.loop-x.x c.loop-y.y (omega arith) (omega arith), mul_comm c.height-h.result c.width-w.result)

  pub tested : exceeds_at c.args.picture.now place ≡ c.exceeds.result
  tested = sym (c.exceeds.ensures ∙ ap exceeds c.pixel_at.ensures)

pub loop-x-preserved : goal.loop-x-preserved
loop-x-preserved c =
    let at = (goal.at.loop-x-preserved c).After-exceeds in
    c.loop-x.invariant ∙ past (exceeds_at c.args.picture.now) (many at) (place at) (within at) (tested at ∙ c.if-exceeds.false) ∙ rw add_assoc

pub returns-then-exceeds : goal.returns-then-exceeds
returns-then-exceeds c =
    let at = (goal.at.returns-then-exceeds c).After-exceeds in
    for-size (goal.at.returns-then-exceeds c).After-height-h
    (sym (c.loop-x.invariant ∙ stops (exceeds_at c.args.picture.now) (many at) (place at) (within at) (tested at ∙ c.if-exceeds.true)))

pub returns : goal.returns
returns c =
    let w = c.width-w.result in
    let h = c.height-h.result in
    let y = c.loop-y.y in
    let last : w * h ≤ y * w = omega (arith, mul-le-mul_right {m = h} {n = y} w (omega arith), mul_comm h w) in
    for-size (goal.at.returns c).After-height-h (sym (c.loop-y.invariant ∙ ends (exceeds_at c.args.picture.now) (w * h) (y * w) last))
