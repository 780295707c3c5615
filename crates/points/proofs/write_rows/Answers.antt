use mathlib.Core.Path.{◌≡◌, refl, ◌∙◌, ap, sym}
use mathlib.Core.List.{List}
use Prim.Native.Nat.{ℕ, ◌*◌}
use native.Mathlib.Omega.{arith}
use lib.ListN.{length}
use Rattle.mending.specs.Changes.{laid_entries}
use Rattle.points.specs.Points.{points_below, product_at}
use Rattle.points.proofs.Turns.{rows_first, rows_next, laid_none}
use Rattle.points.proofs.write_rows.Goals as goal

pub loop-y-init : goal.loop-y-init
loop-y-init c =
    let a = c.args in
    let n = c.next_nonzero-y.ensures in
    let none = rows_first a.xs.now a.w a.ys.now c.requires.low c.next_nonzero-y.result n in
    (n.high, n.found, sym (ap length none), sym (ap (λ (new : List (List ℕ)). laid_entries new a.list.now) none ∙ laid_none a.list.now), refl)

pub write_row-k-requires : goal.write_row-k-requires
write_row-k-requires c =
    let l = c.loop-y in
    let r = c.requires in
    record {
      rows = record { low = r.low; wide = r.wide; within = r.within; tall = r.tall; fits = omega (arith, r.fits, l.invariant.4) };
      inside = omega arith;
      worth = l.invariant.1 (omega arith);
      first = c.next_nonzero-from.ensures;
      counted = l.invariant.2;
    }

pub loop-y-smaller : goal.loop-y-smaller
loop-y-smaller c = omega (arith, c.next_nonzero-y-in-loop-y.ensures.low)

pub loop-y-preserved : goal.loop-y-preserved
loop-y-preserved c =
    let call = c.write_row-k in
    let l = c.loop-y in
    let a = c.args in
    let n = c.next_nonzero-y-in-loop-y.ensures in
    let next = rows_next a.xs.now a.w a.ys.now c.requires.low l.y c.next_nonzero-y-in-loop-y.result n in (
      n.high,
      n.found,
      call.ensures.value ∙ ap length (sym next),
      call.ensures.by_index a.list.now l.invariant.3 ∙ ap (λ (new : List (List ℕ)). laid_entries new a.list.now) (sym next),
      call.auto.list ∙ l.invariant.4,
    )

pub returns : goal.returns
returns c =
    let l = c.loop-y in
    let a = c.args in
    let e : l.y ≡ length a.ys.now = omega (arith, l.invariant.0) in
    l.invariant.3 ∙ ap (λ (y : ℕ). laid_entries (points_below (product_at a.w a.xs.now a.ys.now) (y * a.w)) a.list.now) e

pub shape_of-list : goal.shape_of-list
shape_of-list c = c.loop-y.invariant.4
