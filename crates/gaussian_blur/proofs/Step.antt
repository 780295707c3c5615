-- The blur of a level from the blur of the level below it, in any form and by any convolution that looks only at its line; and the part of a
-- buffer that the level below takes.
use mathlib.Core.Path.{◌≡◌, refl, sym, ap, ◌∙◌}
use mathlib.Core.List.{List, ◌++◌}
use Prim.Native.Nat.{ℕ, zero, suc, ◌-◌, ◌<◌, ◌≤◌}
use native.Mathlib.Numerals.{sub-one}
use native.Mathlib.Omega.{arith}
use lib.ListN.{length, take, drop}
use lib.Seq.{take_at, length-take-le, length_front}
use Rattle.picture.specs.Planes.{chan, painted}
use Rattle.picture.specs.Sizes.{half, half_level, Sides, Sized}
use Rattle.picture.specs.declared.EdgeMode.{EdgeMode}
use Rattle.picture.specs.declared.LevelSize.{LevelSize}
use Rattle.picture.proofs.Sizes.{half_sized}
use Rattle.passes.specs.Passes.{Pass, halve, double}
use Rattle.passes.specs.Blur.{blur}
use Rattle.passes.specs.Forms.{of_pixels, form_bytes, read_as, write_as, form_pass}
use Rattle.passes.specs.declared.Form.{Form}
use Rattle.passes.proofs.Forms.{read_write, write_same, form_grows, pixels_alike}
use Rattle.passes.proofs.Local.{Local, halve_local, double_local, both_local, blur_local}

-- the bytes of a picture of w by h, blurred by the convolution C
abbrev pub blurred_by : Form → Pass → EdgeMode → ℕ → ℕ → ℕ → List ℕ → List ℕ
blurred_by f C mode n w h bytes = write_as f w h (λ c. blur (halve mode) (double mode) C n w h (read_as f bytes w h c))

-- a picture of pixels is one of the forms
pub pixels_blurred : (C : Pass) → Local C → (mode : EdgeMode) (n w h : ℕ) → Sides w h → (bytes : List ℕ) →
    blurred_by of_pixels C mode n w h bytes ≡ painted w h (λ c. blur (halve mode) (double mode) C n w h (chan bytes w c))
pixels_blurred C lc mode n w h z =
    pixels_alike w h w h (blur (halve mode) (double mode) C n w h)
    (λ p q. blur_local (halve mode) (double mode) C (halve_local mode) (double_local mode) lc n w h p q z.w_low z.h_low)

module _ (f : Form) (C : Pass) (lc : Local C) (mode : EdgeMode) (s : LevelSize) (z : Sized s) (p : List ℕ) where
  -- no decimation left: the convolution
  pub blurred_none : (n : ℕ) → n ≡ 0 → form_pass f C s s p ≡ blurred_by f C mode n s.w s.h p
  unfolding form_pass blur
  blurred_none n e = rw e

  -- halved, blurred with one decimation fewer, and doubled
  pub blurred_more : (n : ℕ) → (n ≡ 0 → ⊥) →
      form_pass f (double mode) (half_level s) s (blurred_by f C mode (n - 1) (half s.w) (half s.h) (form_pass f (halve mode) s (half_level s) p))
      ≡ blurred_by f C mode n s.w s.h p
  unfolding form_pass blur
  blurred_more zero e = absurd (e refl)
  blurred_more (suc n) e =
      let w = half s.w in
      let h = half s.h in
      let zw : 0 < w = omega (arith, z.w_low) in
      let zh : 0 < h = omega (arith, z.h_low) in
      rw (sub-one (suc n))
      (write_same f s.w s.h _ _
      (λ c x y lc' _ _.
      both_local (double mode) (double_local mode) w h _ _ zw zh
      (λ u v lu lv.
      read_write f w h _ c u v lc' lu lv
      ∙ blur_local (halve mode) (double mode) C (halve_local mode) (double_local mode) lc
      n w h _ _ zw zh (λ a b la lb. read_write f w h _ c a b lc' la lb) u v)
      x y))

-- the level below has sides for which there is room too
pub below_sized : (s : LevelSize) → Sized s → {t : LevelSize} → t ≡ half_level s → Sized t
below_sized s z e = rw e (half_sized s z)

-- a buffer of the level s, whose first k bytes the level t below takes
pub record Part (f : Form) (s t : LevelSize) (k : ℕ) (l : List ℕ) : Type 0 where
  pub sized : Sized s
  pub below : t ≡ half_level s
  pub bytes : k ≡ form_bytes f t.w t.h
  pub all : length l ≡ form_bytes f s.w s.h

module _ {f : Form} {s t : LevelSize} {k : ℕ} {l : List ℕ} (p : Part f s t k l) where
  halved_bytes : k ≡ form_bytes f (half s.w) (half s.h)
  halved_bytes = p.bytes ∙ ap (λ (t : LevelSize). form_bytes f t.w t.h) p.below

  pub part_fits : k ≤ length l
  part_fits =
      let smaller = form_grows f {v = half s.w} {u = half s.h} {w = s.w} {h = s.h} (omega (arith, p.sized.w_low)) (omega (arith, p.sized.h_low)) in
      omega (arith, smaller, halved_bytes, p.all)

  pub part_counts : k ≡ length (take k l)
  part_counts = sym (length-take-le k l part_fits)

  pub part_long : length (take k l) ≡ form_bytes f t.w t.h
  part_long = sym part_counts ∙ p.bytes

  -- what comes back for the part is as long, and so is the whole
  pub part_back : (e : List ℕ) → length e ≡ length (take k l) → length (e ++ drop k l) ≡ form_bytes f s.w s.h
  part_back e q = length_front l e k q ∙ p.all

  -- the level was halved, its part blurred where it lay, and doubled
  pub step : (C : Pass) → Local C → (mode : EdgeMode) (n : ℕ) (old : List ℕ) {e new : List ℕ} → (n ≡ 0 → ⊥) → length e ≡ length (take k l) →
      take (form_bytes f (half s.w) (half s.h)) l ≡ form_pass f (halve mode) s (half_level s) old →
      e ≡ blurred_by f C mode (n - 1) t.w t.h (take k l) →
      new ≡ form_pass f (double mode) (half_level s) s (take (form_bytes f (half s.w) (half s.h)) (e ++ drop k l)) →
      new ≡ blurred_by f C mode n s.w s.h old
  step C lc mode n old {e} {new} some len halved self doubled =
      let back : take k (e ++ drop k l) ≡ e = take_at e (drop k l) k (len ∙ sym part_counts) in
      let halved' : take k l ≡ form_pass f (halve mode) s (half_level s) old = rw halved_bytes halved in
      let doubled' : new ≡ form_pass f (double mode) (half_level s) s (take k (e ++ drop k l)) = doubled ∙ ap (λ (m : ℕ). form_pass f (double mode) (half_level s) s (take m (e ++ drop k l))) (sym halved_bytes) in
      doubled' ∙ rw (back, self, p.below, halved') (blurred_more f C lc mode s p.sized old n some)
