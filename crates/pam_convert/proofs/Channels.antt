-- Channels beside their alpha: a picture that passes the check survives outward and inward, and one that came inward passes.
use mathlib.Core.Path.{◌≡◌, refl, sym, ap₂, ◌∙◌}
use mathlib.Core.List.{List}
use Prim.Native.Nat.{ℕ, zero, suc, ◌+◌, ◌*◌, ◌/◌, ◌%◌, ◌≤◌, ◌<◌}
use native.Mathlib.Omega.{arith}
use lib.ListN.{length, get_or}
use lib.Seq.{ext_get_or}
use Rattle.picture.specs.Planes.{bytes_of}
use Rattle.pixels.specs.Pixels.{pixel_at}
use Rattle.pixels.specs.Channels.{premultiply}
use Rattle.pixels.proofs.Channels.{premultiply_le}
use Rattle.pixels.proofs.Painting.{at}
use Rattle.grading.specs.Premultiplied.{none, scanned}
use Rattle.unmultiply.specs.Outward.{outward}
use Rattle.pam_convert.specs.Straight.{recoloured_channel, imported, exported}
use Rattle.pam_convert.proofs.Recolouring.{anew, length_recoloured, recoloured_at}
use Rattle.grading.proofs.Scanned.{passes_at, finds_none, below_alpha, fits_alpha}
use Rattle.pam_convert.proofs.Straight.{survives}

-- every element is a byte
abbrev pub Bytes : List ℕ → Type 0
Bytes p = (i : ℕ) → get_or p i 0 ≤ 255

module _ (w h : ℕ) (picture : List ℕ) (bytes : Bytes picture) (exact : length picture ≡ bytes_of w h) (pass : scanned picture w h ≡ none) where
  -- one channel, there and back
  channel_back : (i c : ℕ) → i < w * h → c < 4 → recoloured_channel premultiply c (anew outward picture i c) (at picture i 3) ≡ at picture i c
  channel_back i zero l m = survives (at picture i 0) (at picture i 3) (below_alpha (pixel_at picture i) (passes_at picture w h pass i l)).0 (bytes (4 * i + 3))
  channel_back i (suc zero) l m = survives (at picture i 1) (at picture i 3) (below_alpha (pixel_at picture i) (passes_at picture w h pass i l)).1 (bytes (4 * i + 3))
  channel_back i (suc (suc zero)) l m = survives (at picture i 2) (at picture i 3) (below_alpha (pixel_at picture i) (passes_at picture w h pass i l)).2 (bytes (4 * i + 3))
  channel_back i (suc (suc (suc zero))) l m = refl
  channel_back i (suc (suc (suc (suc c)))) l m = absurd (omega arith)

  at_back : (i c : ℕ) → i < w * h → c < 4 → at (imported w h (exported w h picture)) i c ≡ at picture i c
  at_back i c l m =
      recoloured_at premultiply w h (exported w h picture) i c l m
      ∙ ap₂ (recoloured_channel premultiply c) (recoloured_at outward w h picture i c l m) (recoloured_at outward w h picture i 3 l (omega arith))
      ∙ channel_back i c l m

  pub there_and_back : imported w h (exported w h picture) ≡ picture
  there_and_back =
      let long : length (imported w h (exported w h picture)) ≡ bytes_of w h = length_recoloured premultiply w h (exported w h picture) in
      ext_get_or 0 _ _ (long ∙ sym exact)
      (λ j l.
      let split : j ≡ 4 * (j / 4) + j % 4 = omega arith in
      rw split (at_back (j / 4) (j % 4) (omega (arith, long)) (omega arith)))

module _ (w h : ℕ) (body : List ℕ) (bytes : Bytes body) where
  pub passes_inward : scanned (imported w h body) w h ≡ none
  passes_inward = finds_none (imported w h body) w h (λ i l. fits_alpha (pixel_at (imported w h body) i) (low i 0 l (omega arith) refl) (low i 1 l (omega arith) refl) (low i 2 l (omega arith) refl))
    where
      low : (i c : ℕ) → i < w * h → c < 4 → anew premultiply body i c ≡ premultiply (at body i c) (at body i 3) → at (imported w h body) i c ≤ at (imported w h body) i 3
      low i c l m e =
          rw (recoloured_at premultiply w h body i c l m, recoloured_at premultiply w h body i 3 l (omega arith), e)
          (premultiply_le (at body i c) (at body i 3) (bytes (4 * i + c)))
