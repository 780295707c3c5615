-- A view that the checks refuse is clear; else both coordinates are extended, and the picture holds the pixel.
use mathlib.Core.Path.{◌≡◌, ◌∙◌, sym, ap, subst}
use Prim.Native.Nat.{ℕ}
use Rattle.picture.specs.Sizes.{Pictured}
use Rattle.picture.specs.declared.FullSize.{FullSize}
use Rattle.edges.specs.Whole.{place_of}
use Rattle.grading.specs.Sampling.{Held, sampled_pixel, sampled}
use Rattle.grading.proofs.Accepted.{again, refused, accepted, accepted_sides, accepted_whole, extended_held, extended_sampled}
use Rattle.grading.proofs.sampling.sample_at.Goals as goal
use Rattle.grading.proofs.sampling.sample_at.Goals.{Else-is_err, After-width, After-height, After-extend_signed-row}

pub returns-then-is_err : goal.returns-then-is_err
unfolding sampled
returns-then-is_err c = rw (refused _ _ _ _ _ c.check_view.ensures (sym c.is_err.ensures.value ∙ c.if-is_err.true)) c.clear.ensures

pub full_size-size-requires : goal.full_size-size-requires
full_size-size-requires c = accepted_sides _ _ _ _ _ c.check_view.ensures (sym c.is_err.ensures.value ∙ c.if-is_err.false)

-- past the checks: a whole picture, whose sides have pixels and room
accepts-whole : (c : Else-is_err) → let a = c.args in Pictured a.w a.h a.picture.now
accepts-whole c = accepted_whole _ _ _ _ _ c.check_view.ensures (sym c.is_err.ensures.value ∙ c.if-is_err.false)

-- the size is that of the sides
wide : (c : After-width) → c.width.result ≡ c.args.w
wide c = c.width.ensures ∙ ap (λ (s : FullSize). s.w) c.full_size-size.ensures

high : (c : After-height) → c.height.result ≡ c.args.h
high c = c.height.ensures ∙ ap (λ (s : FullSize). s.h) c.full_size-size.ensures

pub extend_signed-column-requires : goal.extend_signed-column-requires
extend_signed-column-requires c =
    let at = goal.at.extend_signed-column-requires c in
    let s = (accepts-whole at.Else-is_err).sized in
    rw (wide at.After-width) (s.w_low, s.w_high)

pub extend_signed-row-requires : goal.extend_signed-row-requires
extend_signed-row-requires c =
    let at = goal.at.extend_signed-row-requires c in
    let s = (accepts-whole at.Else-is_err).sized in
    rw (high at.After-height) (s.h_low, s.h_high)

-- the column and the row are those of the edge rule
module _ (c : After-extend_signed-row) (w : c.width.result ≡ c.args.w) (h : c.height.result ≡ c.args.h) where
  across : c.extend_signed-column.result ≡ place_of c.edge_mode-mode.result c.args.w (again c.args.x)
  across = c.extend_signed-column.ensures ∙ ap (λ (s : ℕ). place_of c.edge_mode-mode.result s (again c.args.x)) w

  down : c.extend_signed-row.result ≡ place_of c.edge_mode-mode.result c.args.h (again c.args.y)
  down = c.extend_signed-row.ensures ∙ ap (λ (s : ℕ). place_of c.edge_mode-mode.result s (again c.args.y)) h

  full : c.full_size-size.result.w ≡ c.args.w
  full = ap (λ (s : FullSize). s.w) c.full_size-size.ensures

pub pixel_of-requires : goal.pixel_of-requires
pixel_of-requires c =
    let at = goal.at.pixel_of-requires c in
    let e = at.After-extend_signed-row in
    let a = c.args in
    subst (λ (w : ℕ). Held a.picture.now w c.extend_signed-column.result c.extend_signed-row.result) (sym (full e (wide at.After-width) (high at.After-height)))
    (extended_held a.picture.now a.w a.h c.edge_mode-mode.result a.x a.y c.ranges.x c.ranges.y (across e (wide at.After-width) (high at.After-height)) (down e (wide at.After-width) (high at.After-height))
    (accepts-whole at.Else-is_err))

pub returns : goal.returns
returns c =
    let at = goal.at.returns c in
    let e = at.After-extend_signed-row in
    let a = c.args in
    c.pixel_of.ensures
    ∙ ap (λ (w : ℕ). sampled_pixel a.picture.now w c.extend_signed-column.result c.extend_signed-row.result) (full e (wide at.After-width) (high at.After-height))
    ∙ extended_sampled a.picture.now a.w a.h c.edge_mode-mode.result a.x a.y c.ranges.x c.ranges.y (across e (wide at.After-width) (high at.After-height)) (down e (wide at.After-width) (high at.After-height))
    a.edge c.edge_mode-mode.ensures (accepted _ _ _ _ _ c.check_view.ensures (sym c.is_err.ensures.value ∙ c.if-is_err.false))
