-- The shadow is cast by alpha alone: what casting all channels makes of alpha is that plane cast by itself, and the whole shadow is made of
-- the picture and that plane, in whichever form they are stored.
use mathlib.Core.Path.{◌≡◌, ◌∙◌, refl, sym, ap}
use mathlib.Core.Bool.{Bool, true, false, cond}
use mathlib.Core.List.{List}
use Prim.Native.Nat.{ℕ, ◌*◌, ◌/◌, ◌%◌, ◌<◌}
use native.Mathlib.Nat.{mul-one, one-mul, mod-lt, div-lt_iff_lt-mul}
use native.Mathlib.Omega.{arith}
use lib.Ieee.{Float}
use Rattle.picture.specs.Planes.{Plane, chan, painted}
use Rattle.picture.specs.declared.EdgeMode.{EdgeMode}
use Rattle.picture.proofs.Build.{build_ext}
use Rattle.picture.proofs.Planes.{chan_painted, painted_same}
use Rattle.binary32.specs.Round.{whole_offset}
use Rattle.passes.specs.Passes.{halve, double, convolve}
use Rattle.passes.specs.Forms.{of_planes, form_bytes, read_as, write_as, Formed}
use Rattle.passes.proofs.Forms.{length_write, read_write}
use Rattle.passes.proofs.Planes.{at}
use Rattle.passes.proofs.Local.{Same, halve_local, double_local, convolve_local, blur_local}
use Rattle.composite.specs.Channels.{shadow_alpha, over}
use Rattle.composite.specs.Shadow.{shadow_of, coloured, composed, written}
use Rattle.composite.specs.Plane.{plane_in, tint_of, tinted_by, tint_on, shadow_on}
use Rattle.composite.proofs.Laid.{plane_here, as_tint}
use Rattle.shift.specs.Shift.{shifted_picture}
use Rattle.shift.specs.Bytes.{plane_shifted}
use Rattle.shift.proofs.Plane.{plane_built}
use Rattle.shift.proofs.Moved.{shifted_local}
use Rattle.gaussian_blur.specs.Blurred.{blurred_plane, blurred, blurred_form}
use Rattle.gaussian_blur.specs.Outcome.{above_zero, blurred_or_kept, form_or_kept}
use Rattle.drop_shadow.specs.Shadowed.{colour_of, cast, shadowed}
use Rattle.gaussian_blur.proofs.Outcomes as outcomes
use Rattle.drop_shadow.specs.Cast.{moved_plane, cast_plane, cast_bytes}
use Rattle.drop_shadow.specs.declared.Recipe.{Recipe}

-- a plane of single bytes as a form
pub plane_bytes_lem : (w h : ℕ) → form_bytes (of_planes 1) w h ≡ h * w
plane_bytes_lem w h = rw (mul-one w, one-mul (h * w))

pub plane_formed : Formed (of_planes 1)
plane_formed = record { planes_low = omega arith; planes_high = omega arith; lanes_low = omega arith; lanes_high = omega arith }

plane_read : (bytes : List ℕ) (w h x y : ℕ) → read_as (of_planes 1) bytes w h 0 x y ≡ plane_in bytes w x y
unfolding read_as plane_in
plane_read bytes w h x y = at bytes (rw (mul-one w, mul-one x) (omega arith))

module _ (mode : EdgeMode) (weights : List Float) (n : ℕ) (recipe : Recipe) (w h : ℕ) (zw : 0 < w) (zh : 0 < h) where
  abbrev blurs : (P Q : Plane) → Same w h P Q → (x y : ℕ) → blurred_plane mode weights n w h P x y ≡ blurred_plane mode weights n w h Q x y
  blurs P Q e x y = blur_local (halve mode) (double mode) (convolve mode weights) (halve_local mode) (double_local mode) (convolve_local mode weights) n w h P Q zw zh e x y

  abbrev moves : (P Q : Plane) → Same w h P Q → (x y : ℕ) → moved_plane recipe w h P x y ≡ moved_plane recipe w h Q x y
  moves = shifted_local _ _ w h

  -- a plane that is cast looks only inside
  pub cast_local : (P Q : Plane) → Same w h P Q → (x y : ℕ) → cast_plane mode weights n recipe w h P x y ≡ cast_plane mode weights n recipe w h Q x y
  unfolding cast_plane
  cast_local P Q e x y = by (above_zero recipe.strength)
    where
      by : (b : Bool) → cond b (blurred_plane mode weights n w h (moved_plane recipe w h P)) (moved_plane recipe w h P) x y ≡ cond b (blurred_plane mode weights n w h (moved_plane recipe w h Q)) (moved_plane recipe w h Q) x y
      by true = blurs _ _ (λ i j _ _. moves P Q e i j) x y
      by false = moves P Q e x y

  -- each channel of a picture that is cast is that channel cast by itself
  pub cast_channel : (p : List ℕ) (c x y : ℕ) → c < 4 → x < w → y < h → chan (cast mode weights n recipe w h p) w c x y ≡ cast_plane mode weights n recipe w h (chan p w c) x y
  unfolding cast cast_plane blurred_or_kept blurred shifted_picture
  cast_channel p c x y lc lx ly = by (above_zero recipe.strength)
    where
      moved : ℕ → Plane
      moved c = moved_plane recipe w h (chan p w c)

      by : (b : Bool) → chan (cond b (painted w h (λ c. blurred_plane mode weights n w h (chan (painted w h moved) w c))) (painted w h moved)) w c x y
          ≡ cond b (blurred_plane mode weights n w h (moved_plane recipe w h (chan p w c))) (moved_plane recipe w h (chan p w c)) x y
      by true = chan_painted w h _ c x y lc lx ly ∙ blurs _ _ (λ i j li lj. chan_painted w h _ c i j lc li lj) x y
      by false = chan_painted w h _ c x y lc lx ly

  -- a plane's bytes that are cast
  pub cast_at : (bytes : List ℕ) (x y : ℕ) → x < w → y < h → plane_in (cast_bytes mode weights n recipe w h bytes) w x y ≡ cast_plane mode weights n recipe w h (plane_in bytes w) x y
  unfolding plane_in cast_bytes
  cast_at bytes x y lx ly = plane_built w h (cast_plane mode weights n recipe w h (plane_in bytes w)) x y lx ly

  module _ (composite : Bool) where
    -- the shadow of channels, cast by the last of them
    abbrev pub shadowing : (ℕ → Plane) → ℕ → Plane
    shadowing F = shadow_on composite (colour_of recipe) F (cast_plane mode weights n recipe w h (F 3))

    -- it looks only inside
    pub shadow_local : (F G : ℕ → Plane) → ((c x y : ℕ) → c < 4 → x < w → y < h → F c x y ≡ G c x y) → (c x y : ℕ) → c < 4 → x < w → y < h → shadowing F c x y ≡ shadowing G c x y
    unfolding tint_on
    shadow_local F G e c x y lc lx ly =
        rw (e c x y lc lx ly, e 3 x y (omega arith) lx ly, cast_local (F 3) (G 3) (λ i j li lj. e 3 i j (omega arith) li lj) x y)

    -- alpha's bytes cast, whichever they are, cast this shadow
    pub cast_laid : (bytes : List ℕ) (F : ℕ → Plane) → Same w h (plane_in bytes w) (F 3) → (c x y : ℕ) → x < w → y < h →
        shadow_on composite (colour_of recipe) F (plane_in (cast_bytes mode weights n recipe w h bytes) w) c x y ≡ shadowing F c x y
    unfolding tint_on
    cast_laid bytes F e c x y lx ly = rw (cast_at bytes x y lx ly, cast_local (plane_in bytes w) (F 3) e x y)

    -- a picture with its shadow
    pub shadowed_is : (p : List ℕ) → shadowed mode weights n recipe composite w h p ≡ painted w h (shadowing (chan p w))
    unfolding shadowed written composed coloured tint_on
    shadowed_is p = by composite
      where
        cast_pixel : ℕ → Plane
        cast_pixel c x y = shadow_of (colour_of recipe) (chan (cast mode weights n recipe w h p) w 3 x y) c

        tinted_pixel : ℕ → Plane
        tinted_pixel c x y = tinted_by (tint_of (colour_of recipe)) (shadow_alpha recipe.alpha (cast_plane mode weights n recipe w h (chan p w 3) x y)) c

        here : (c x y : ℕ) → x < w → y < h → cast_pixel c x y ≡ tinted_pixel c x y
        here c x y lx ly = ap (λ (a : ℕ). shadow_of (colour_of recipe) a c) (cast_channel p 3 x y (omega arith) lx ly) ∙ as_tint (colour_of recipe) _ c

        by : (b : Bool) →
            cond b (painted w h (λ c x y. over (chan p w c x y) (chan (painted w h cast_pixel) w c x y) (chan p w 3 x y))) (painted w h cast_pixel)
            ≡ painted w h (λ c x y. cond b (over (chan p w c x y) (tinted_pixel c x y) (chan p w 3 x y)) (tinted_pixel c x y))
        by true = painted_same w h _ _ (λ c x y lc lx ly. ap (λ (v : ℕ). over (chan p w c x y) v (chan p w 3 x y)) (chan_painted w h _ c x y lc lx ly ∙ here c x y lx ly))
        by false = painted_same w h _ _ (λ c x y lc lx ly. here c x y lx ly)

  -- bytes that were moved, in the form of one plane, blurred or kept
  module _ (bytes moved : List ℕ) (made : moved ≡ plane_shifted (whole_offset recipe.dx) (whole_offset recipe.dy) w h bytes) where
    moved_at : (x y : ℕ) → x < w → y < h → read_as (of_planes 1) moved w h 0 x y ≡ moved_plane recipe w h (plane_in bytes w) x y
    unfolding plane_in plane_shifted
    moved_at x y lx ly = plane_read moved w h x y ∙ ap (λ (l : List ℕ). plane_in l w x y) made ∙ plane_built w h (moved_plane recipe w h (plane_in bytes w)) x y lx ly

    cast_blurred : above_zero recipe.strength ≡ true → blurred_form (of_planes 1) mode weights n w h moved ≡ cast_bytes mode weights n recipe w h bytes
    unfolding cast_bytes cast_plane
    cast_blurred on =
        let F : ℕ → Plane = λ c. blurred_plane mode weights n w h (read_as (of_planes 1) moved w h c) in
        let L = write_as (of_planes 1) w h F in
        rw on
        (build_ext (h * w) _ L (length_write (of_planes 1) w h F ∙ plane_bytes_lem w h)
        (λ i l.
        let lx = mod-lt i zw in
        let ly = (div-lt_iff_lt-mul zw).1 l in
        sym (plane_here L w i)
        ∙ sym (plane_read L w h (i % w) (i / w))
        ∙ read_write (of_planes 1) w h F 0 (i % w) (i / w) (omega arith) lx ly
        ∙ blurs _ _ moved_at (i % w) (i / w)))

    cast_kept : above_zero recipe.strength ≡ false → moved ≡ cast_bytes mode weights n recipe w h bytes
    unfolding cast_bytes cast_plane plane_shifted plane_in
    cast_kept off = rw off made

    pub cast_done : form_or_kept (of_planes 1) mode weights n recipe.strength w h moved ≡ cast_bytes mode weights n recipe w h bytes
    cast_done = by (above_zero recipe.strength) refl
      where
        by : (b : Bool) → above_zero recipe.strength ≡ b → form_or_kept (of_planes 1) mode weights n recipe.strength w h moved ≡ cast_bytes mode weights n recipe w h bytes
        by true on = sym (outcomes.blurs (of_planes 1) mode weights n recipe.strength w h moved on) ∙ cast_blurred on
        by false off = sym (outcomes.keeps (of_planes 1) mode weights n recipe.strength w h moved off) ∙ cast_kept off
