-- The count decides: too many for the list, or each point is listed.
use mathlib.Core.Path.{◌≡◌, ◌∙◌, sym, ap, ap₂, subst}
use mathlib.Core.List.{List}
use Prim.Native.Nat.{ℕ, ◌*◌, ◌≤◌, ◌<◌}
use native.Mathlib.Nat.{mul-le-mul}
use native.Mathlib.Omega.{arith}
use lib.ListN.{length}
use lib.Seq.{length-take-le}
use Rattle.picture.specs.Answer.{answered}
use Rattle.picture.specs.Refusal.{number}
use Rattle.picture.specs.Buffers.{line_of}
use Rattle.picture.proofs.Sizes.{room_is}
use Rattle.mending.specs.Changes.{laid_entries}
use Rattle.points.specs.Points.{points_below, product_at}
use Rattle.points.proofs.Points.{count_le}
use Rattle.points.proofs.Rows.{rows_count}
use Rattle.share_lists.specs.Listing.{points_left}
use Rattle.share_lists.proofs.Products.{trimmed, list_full, list_taken}
use Rattle.share_lists.proofs.listing.list_axes.Goals as goal
use Rattle.share_lists.proofs.listing.list_axes.Goals.{After-nonzeros-2}

-- the count is that of the points, and it fits
counted : (c : After-nonzeros-2) →
    let a = c.args in
    (c.nonzeros.result * c.nonzeros-2.result ≡ length (points_below (product_at (length a.xs.now) a.xs.now a.ys.now) (length a.ys.now * length a.xs.now))) ×
    (c.nonzeros.result * c.nonzeros-2.result ≤ 4294967296)
counted c =
    let xs = c.args.xs.now in
    let ys = c.args.ys.now in
    let x = c.nonzeros in
    let y = c.nonzeros-2 in (
      ap₂ (λ (u v : ℕ). u * v) x.ensures y.ensures ∙ sym (rows_count (length xs) xs ys (length ys)),
      mul-le-mul {n₁ = x.result} {m₁ = y.result} {n₂ = 65536} {m₂ = 65536}
          (omega (arith, x.ensures, count_le (line_of xs) (length xs), c.requires.fact_2, room_is))
          (omega (arith, y.ensures, count_le (line_of ys) (length ys), c.requires.fact_3, room_is)),
    )

pub overflow_mul-count : goal.overflow_mul-count
overflow_mul-count c = omega (arith, (counted (goal.at.overflow_mul-count c).After-nonzeros-2).1)

pub returns-then-list-count : goal.returns-then-list-count
unfolding number
returns-then-list-count c =
    let a = c.args in
    list_full (points_below (product_at (length a.xs.now) a.xs.now a.ys.now) (length a.ys.now * length a.xs.now)) a.list.now
    (subst (λ (k : ℕ). length a.list.now < k) (counted (goal.at.returns-then-list-count c).After-nonzeros-2).0 c.if-list-count.true)

pub write_rows-requires : goal.write_rows-requires
write_rows-requires c =
    let a = c.args in
    let xs = a.xs.now in
    let ys = a.ys.now in
    let cut = c.end_nonzero-end.ensures in
    let room = subst (λ (k : ℕ). k ≤ length a.list.now) (counted (goal.at.write_rows-requires c).After-nonzeros-2).0 c.if-list-count.false in
    record {
      low = c.requires.fact_1;
      wide = c.requires.fact_2;
      within = omega (arith, length-take-le c.end_nonzero-end.result xs cut.high, cut.high);
      tall = c.requires.fact_3;
      fits = subst (λ (f : ℕ → ℕ). length (points_below f (length ys * length xs)) ≤ length a.list.now) (sym (trimmed xs c.end_nonzero-end.result cut (length xs) ys)) room;
    }

pub returns : goal.returns
returns c =
    let a = c.args in
    let xs = a.xs.now in
    let ys = a.ys.now in
    let list = a.list.now in
    let all = (counted (goal.at.returns c).After-nonzeros-2).0 in
    ap₂ (λ (l : List (List ℕ)) (k : ℕ). answered 0 (points_left l k))
    (c.write_rows.ensures ∙ ap (λ (f : ℕ → ℕ). laid_entries (points_below f (length ys * length xs)) list) (trimmed xs c.end_nonzero-end.result c.end_nonzero-end.ensures (length xs) ys))
    all
    ∙ list_taken (points_below (product_at (length xs) xs ys) (length ys * length xs)) list (subst (λ (k : ℕ). k ≤ length list) all c.if-list-count.false)
