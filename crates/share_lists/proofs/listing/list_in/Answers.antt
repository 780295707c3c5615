-- The shares along both axes, and their points.
use mathlib.Core.Path.{◌≡◌, ◌∙◌, sym, ap, ap₂}
use mathlib.Core.List.{List}
use Prim.Native.Nat.{ℕ, ◌/◌, ◌%◌, ◌≤◌}
use native.Mathlib.Omega.{arith}
use lib.ListN.{length, take}
use lib.Seq.{length-take-le}
use Rattle.picture.specs.Build.{build}
use Rattle.share_laws.specs.Share.{axis_share}
use Rattle.share_checks.proofs.Accepted.{across_asked, down_asked}
use Rattle.share_lists.proofs.Products.{points_out, list_settled}
use Rattle.share_lists.proofs.listing.list_in.Goals as goal
use Rattle.share_lists.proofs.listing.list_in.Goals.{After-fill_axis-2}

pub fill_axis-requires : goal.fill_axis-requires
fill_axis-requires c =
    let p = c.requires in
    rw (c.across.ensures, c.width-w.ensures) (record { fact_1 = across_asked p.fact_1; fact_2 = p.fact_2.0; fact_3 = p.fact_3 })

pub fill_axis-requires-2 : goal.fill_axis-requires-2
fill_axis-requires-2 c =
    let p = c.requires in
    rw (c.down.ensures, c.width-w.ensures)
    (record {
      fact_1 = down_asked p.fact_1;
      fact_2 = record { room = omega (arith, p.fact_2.1.room, c.fill_axis.auto.work); blank = c.fill_axis.ensures.blank };
      fact_3 = p.fact_4;
    })

-- the first elements of both rows are the axes' shares
module _ (c : After-fill_axis-2) where
  abbrev w : ℕ
  w = c.width-w.result

  abbrev h : ℕ
  h = c.height-h.result

  abbrev xs : List ℕ
  xs = c.fill_axis.new.row

  abbrev ys : List ℕ
  ys = c.fill_axis-2.new.row

  rooms : (w ≤ length xs) × (h ≤ length ys)
  rooms =
      let p = c.requires in (
        omega (arith, p.fact_3.room, c.fill_axis.auto.row, c.width-w.ensures),
        omega (arith, p.fact_4.room, c.fill_axis-2.auto.row, c.height-h.ensures),
      )

  columns : let a = c.args in take w xs ≡ build a.size.w (axis_share a.mode a.numerators.now a.n a.size.w (a.out % a.size.w))
  columns =
      let a = c.args in
      ap (λ (k : ℕ). take k xs) (c.width-w.ensures ∙ sym c.across.ensures)
      ∙ c.fill_axis.ensures.row_after
      ∙ ap₂ (λ (s v : ℕ). build s (axis_share a.mode a.numerators.now a.n s (a.out % v))) c.across.ensures c.width-w.ensures

  rows : let a = c.args in take h ys ≡ build a.size.h (axis_share a.mode a.numerators.now a.n a.size.h (a.out / a.size.w))
  rows =
      let a = c.args in
      ap (λ (k : ℕ). take k ys) (c.height-h.ensures ∙ sym c.down.ensures)
      ∙ c.fill_axis-2.ensures.row_after
      ∙ ap₂ (λ (s v : ℕ). build s (axis_share a.mode a.numerators.now a.n s (a.out / v))) c.down.ensures c.width-w.ensures

pub list_axes-requires : goal.list_axes-requires
list_axes-requires c =
    let g = (goal.at.list_axes-requires c).After-fill_axis-2 in
    let s = c.requires.fact_1.sides in
    let x = length-take-le _ c.fill_axis.new.row (rooms g).0 ∙ c.width-w.ensures in
    let y = length-take-le _ c.fill_axis-2.new.row (rooms g).1 ∙ c.height-h.ensures in
    record { fact_1 = omega (arith, x, s.w_low); fact_2 = omega (arith, x, s.w_high); fact_3 = omega (arith, y, s.h_high) }

pub returns : goal.returns
returns c =
    let g = (goal.at.returns c).After-fill_axis-2 in
    let a = c.args in
    c.list_axes.ensures
    ∙ ap (λ (points : List (List ℕ)). list_settled points a.list.now)
    (points_out a.mode a.numerators.now a.n a.size.w a.size.h a.out _ _ c.requires.fact_1.sides.w_low (columns g) (rows g))
