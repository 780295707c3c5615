-- Laws of what a call leaves: the picture by its strength, the scratch cleared, and what no refusal says.
use mathlib.Core.Path.{◌≡◌, ◌∙◌, sym, ap, ap₂}
use mathlib.Core.Bool.{true, false, cond}
use mathlib.Core.List.{List, ◌++◌}
use Prim.Native.Nat.{ℕ, ◌+◌, ◌-◌, ◌≤◌}
use native.Mathlib.Omega.{arith}
use lib.Dec.{lit<}
use lib.Ieee.{Float}
use lib.ListN.{length, take, drop}
use lib.Seq.{length-take-le, drop-append-add, drop-drop}
use borrow.Author.Tests.{ltb-false}
use Rattle.picture.specs.Planes.{cleared}
use Rattle.picture.specs.Answer.{lent}
use Rattle.picture.specs.Refusal.{first_of, wrong_sides, too_short}
use Rattle.picture.specs.declared.EdgeMode.{EdgeMode}
use Rattle.picture.proofs.Sizes.{whole}
use Rattle.picture.proofs.Passed.{passed}
use Rattle.picture.proofs.Planes.{cleared_is}
use Rattle.passes.specs.declared.Form.{Form}
use Rattle.gaussian_blur.specs.Blurred.{blurred_form}
use Rattle.gaussian_blur.specs.Needs.{BlurAccepted}
use Rattle.gaussian_blur.specs.Outcome.{blur_checks, above_zero, form_or_kept}

module _ (f : Form) (mode : EdgeMode) (weights : List Float) (n : ℕ) (strength : Float) (w h : ℕ) (p : List ℕ) where
  pub blurs : above_zero strength ≡ true → blurred_form f mode weights n w h p ≡ form_or_kept f mode weights n strength w h p
  unfolding form_or_kept
  blurs on = rw on

  pub keeps : above_zero strength ≡ false → p ≡ form_or_kept f mode weights n strength w h p
  unfolding form_or_kept
  keeps off = rw off

-- what a form's blur makes of bytes is made, or they are kept
pub made_or_kept : (f : Form) (mode : EdgeMode) (weights : List Float) (n : ℕ) (strength : Float) (w h : ℕ) (p : List ℕ) {made kept : List ℕ} →
    blurred_form f mode weights n w h p ≡ made → p ≡ kept → form_or_kept f mode weights n strength w h p ≡ cond (above_zero strength) made kept
unfolding form_or_kept
made_or_kept f mode weights n strength w h p e k = ap₂ (cond (above_zero strength)) e k

-- the first a bytes were lent and came back, and the first k, at least as many, were cleared: nothing after them changed
pub cleared_over : {a k : ℕ} (work e : List ℕ) → a ≤ k → k ≤ length work → length e ≡ length (take a work) → cleared k (e ++ drop a work) ≡ cleared k work
cleared_over {a} {k} work e l fits kept = rw (cleared_is, cleared_is, same_rest)
  where
    same_rest : drop k (e ++ drop a work) ≡ drop k work
    same_rest =
        let long : length e ≡ a = kept ∙ length-take-le a work (omega arith) in
        let all : length e + (k - a) ≡ k = omega arith in
        ap (λ (n : ℕ). drop n (e ++ drop a work)) (sym all) ∙ drop-append-add e (drop a work) (k - a) ∙ drop-drop (k - a) a work ∙ ap (λ (n : ℕ). drop n work) {x = a + (k - a)} {y = k} (omega arith)

pub cleared_part : (k : ℕ) (work e : List ℕ) → k ≤ length work → length e ≡ length (take k work) → cleared k (e ++ drop k work) ≡ cleared k work
cleared_part k work e le len = cleared_over {a = k} {k = k} work e (omega arith) le len

-- so an accepted call, which lends as many bytes as the picture has, leaves the picture and the rest of the scratch
pub lent_cleared : (work e : List ℕ) {k m : ℕ} {p p' z : List ℕ} → k ≡ m → m ≤ length work → length e ≡ length (take k work) → p ≡ p' → z ≡ cleared k (e ++ drop k work) → lent p z ≡ lent p' (cleared m work)
lent_cleared work e is room len done clear =
    ap₂ lent done (clear ∙ cleared_part _ work e (omega arith) len ∙ ap (λ (n : ℕ). cleared n work) is)

-- no refusal: the sizes and the kernel are as the work needs them
pub accepted : (p : List ℕ) (w h : ℕ) (s : List ℕ) (weights : List Float) (n : ℕ) (strength : Float) (edge : ℕ) →
    0 ≡ first_of (blur_checks (length p) w h (length s) weights n strength edge) → (wrong_sides w h ≡ false) × BlurAccepted w h p s weights
unfolding too_short
accepted p w h s weights n strength edge e =
    let one = passed _ _ (lit< tt) e in
    let two = passed _ _ (lit< tt) one.1 in
    let three = passed _ _ (lit< tt) two.1 in
    let four = passed _ _ (lit< tt) three.1 in
    let five = passed _ _ (lit< tt) four.1 in (
      one.0,
      record {
        pictured = whole p w h one.0 two.0;
        room = ltb-false _ _ three.0;
        kernel = record { counted = four.0; in_unit = five.0 };
      },
    )
