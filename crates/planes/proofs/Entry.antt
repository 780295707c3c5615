-- Laws of the entries that convert, whichever way: what follows where a call is not refused.
use mathlib.Core.Path.{◌≡◌, sym, ap, ap₂, ◌∙◌}
use mathlib.Core.Bool.{false}
use mathlib.Core.List.{List, ◌++◌}
use Prim.Native.Nat.{ℕ, ◌≤◌}
use native.Mathlib.Omega.{arith}
use lib.Dec.{lit<}
use lib.ListN.{length, take, drop}
use lib.Seq.{length-take-le}
use borrow.Author.Tests.{ltb-false, le-ltb, eq-eqb}
use Rattle.picture.specs.Planes.{bytes_of, laid}
use Rattle.picture.specs.Sizes.{full_size, Pictured}
use Rattle.picture.specs.Refusal.{first_else, first_of, wrong_sides, wrong_length, too_short}
use Rattle.picture.specs.Answer.{answered}
use Rattle.picture.specs.declared.FullSize.{FullSize}
use Rattle.picture.proofs.Sizes.{whole}
use Rattle.picture.proofs.Passed.{passed}
use Rattle.picture.proofs.Answers.{done}
use Rattle.planes.specs.Planar.{Converts}
use Rattle.planes.specs.Outcome.{convert_checks, converted_outcome}

-- no refusal: the sides pass, and the source is whole
pub whole_source : (src : List ℕ) (w h : ℕ) (dst : List ℕ) → 0 ≡ first_of (convert_checks (length src) w h (length dst)) → (wrong_sides w h ≡ false) × (length src ≡ bytes_of w h)
whole_source src w h dst e =
    let one = passed _ _ (lit< tt) e in
    let two = passed _ _ (lit< tt) one.1 in
    (one.0, (whole src w h one.0 two.0).exact)

-- a whole source and enough room are not refused
pub nothing_refused : (src : List ℕ) (w h : ℕ) (dst : List ℕ) → wrong_sides w h ≡ false → length src ≡ bytes_of w h → bytes_of w h ≤ length dst → first_of (convert_checks (length src) w h (length dst)) ≡ 0
unfolding first_of first_else wrong_length too_short
nothing_refused src w h dst s e l = rw (s, eq-eqb (length src) (bytes_of w h) e, le-ltb (length dst) (bytes_of w h) l)

module _ (form : ℕ → ℕ → List ℕ → List ℕ) (src : List ℕ) (w h : ℕ) (dst : List ℕ) (e : 0 ≡ first_of (convert_checks (length src) w h (length dst))) where
  pub sides_passed : wrong_sides w h ≡ false
  sides_passed = (passed _ _ (lit< tt) e).0

  -- the source is whole, and no longer than the room for it
  fits : Pictured w h src × (bytes_of w h ≤ length dst)
  unfolding too_short
  fits =
      let two = passed _ _ (lit< tt) (passed _ _ (lit< tt) e).1 in
      (whole src w h sides_passed two.0, ltb-false _ _ (passed _ _ (lit< tt) two.1).0)

  pub enough : length src ≤ length dst
  enough = omega (arith, fits.0.exact, fits.1)

  module _ (size : FullSize) (s : size ≡ full_size w h) where
    pub call_ready : Converts size src (take (length src) dst)
    call_ready = rw s (record { given = fits.0; room = length-take-le _ _ enough ∙ fits.0.exact })

    pub call_done : (out : List ℕ) → out ≡ form size.w size.h src → length out ≡ length (take (length src) dst) →
        answered 0 (out ++ drop (length src) dst) ≡ converted_outcome form src w h dst
    unfolding converted_outcome laid
    call_done out is kept =
        let new : out ≡ form w h src = rw s at is in
        let long : length src ≡ length (form w h src) = sym (length-take-le _ _ enough) ∙ sym kept ∙ ap length new in
        ap (answered 0) (ap₂ (λ (new : List ℕ) (k : ℕ). new ++ drop k dst) new long) ∙ done _ dst _ (sym e)
