-- A file is accepted exactly when it is our header of sides within refusal 1's limits and 4wh bytes more, and then its sides are those.
use mathlib.Core.Path.{◌≡◌, refl, ap, ap₂, ◌∙◌}
use mathlib.Core.Bool.{true, false, not}
use mathlib.Core.List.{List, ◌∷◌, ◌++◌, append_assoc}
use Prim.Native.Nat.{ℕ, ◌+◌, ◌<◌}
use native.Mathlib.Omega.{arith}
use lib.Dec.{eqb}
use lib.ListN.{length, drop, length-append, length-drop}
use lib.Seq.{drop-append_seam}
use borrow.Author.Tests.{eqb-true, eq-eqb, not-true}
use Rattle.picture.specs.Planes.{bytes_of}
use Rattle.picture.specs.Refusal.{wrong_sides}
use Rattle.picture.proofs.Sizes.{full_sized, room_is}
use Rattle.pam_format.specs.Header.{bytes, digit_count, decimal, before_width, before_height, after_height, header}
use Rattle.pam_format.specs.Format.{number_on, side_at, width_in, height_in, begins_with, has_sides, is_pam, Pam}
use Rattle.pam_format.proofs.Decimals.{length_decimal}
use Rattle.pam_format.proofs.Numbers.{value_of}
use Rattle.pam_format.proofs.Starts.{both, starts_own, starts_is}

-- a side that check 1 lets through has at most five digits
module _ (w h : ℕ) (s : wrong_sides w h ≡ false) where
  short_width : w < 100000
  short_width = omega (arith, room_is, (full_sized w h s).w_high)

  short_height : h < 100000
  short_height = omega (arith, room_is, (full_sized w h s).h_high)

-- a number in decimal after some bytes, up to a line's end
number_after : (front rest file : List ℕ) (n at : ℕ) → n < 100000 → at ≡ length front → file ≡ front ++ (decimal n ++ rest) → rest ≡ 10 ∷ drop 1 rest → side_at file at ≡ n
unfolding side_at
number_after front rest file n at l e s t =
    rw (s, e, drop-append_seam front (decimal n ++ rest)) (ap (λ (r : List ℕ). number_on (decimal n ++ r) 0) t ∙ value_of n (drop 1 rest) l)

module _ (file : List ℕ) (w h : ℕ) (p : Pam file w h) where
  width_is : width_in file ≡ w
  unfolding header before_height bytes
  width_is =
      number_after before_width (before_height ++ (decimal h ++ (after_height ++ p.body))) file w (length before_width) (short_width w h p.sides) refl
      (p.spelt ∙ simp append_assoc) refl

  height_is : height_in file ≡ h
  unfolding header after_height bytes
  height_is =
      let front = before_width ++ decimal w ++ before_height in
      number_after front (after_height ++ p.body) file h (length before_width + digit_count (width_in file) + length before_height) (short_height w h p.sides)
      (rw width_is (simp (length-append, length_decimal)))
      (p.spelt ∙ simp append_assoc) refl

  -- such a file has those sides ..
  fits : has_sides file w h ≡ true
  unfolding has_sides
  fits =
      let long : length file ≡ length (header w h) + bytes_of w h = ap length p.spelt ∙ length-append (header w h) p.body ∙ ap (λ (n : ℕ). length (header w h) + n) p.exact in
      rw (p.sides, eq-eqb _ _ long) (ap (begins_with (header w h)) p.spelt ∙ starts_own (header w h) p.body)

  -- .. and is accepted
  pub accepts : is_pam file ≡ true
  accepts = ap₂ (has_sides file) width_is height_is ∙ fits

-- a file of these sides is their header and 4wh bytes
sides_are : (file : List ℕ) (w h : ℕ) → has_sides file w h ≡ true → Pam file w h
unfolding has_sides
sides_are file w h e =
    let outer = both (not (wrong_sides w h)) _ e in
    let inner = both (eqb (length file) (length (header w h) + bytes_of w h)) _ outer.1 in
    record {
      sides = not-true _ outer.0;
      body = drop (length (header w h)) file;
      exact = length-drop (length (header w h)) file ∙ omega (arith, eqb-true (length file) (length (header w h) + bytes_of w h) inner.0);
      spelt = starts_is (header w h) file inner.1;
    }

pub pam_is : (file : List ℕ) → (is_pam file ≡ true → Pam file (width_in file) (height_in file)) × ((w h : ℕ) → Pam file w h → (is_pam file ≡ true) × (width_in file ≡ w) × (height_in file ≡ h))
pam_is file = (sides_are file (width_in file) (height_in file), λ w h p. (accepts file w h p, width_is file w h p, height_is file w h p))
