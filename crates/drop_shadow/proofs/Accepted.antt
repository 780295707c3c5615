-- Laws of an accepted call: what no refusal says, and a work buffer whose first part was lent and then cleared.
use mathlib.Core.Path.{◌≡◌, ◌∙◌, ap}
use mathlib.Core.Bool.{false}
use mathlib.Core.List.{List, ◌++◌}
use Prim.Native.Nat.{ℕ, ◌*◌, ◌/◌, ◌≤◌}
use native.Mathlib.Omega.{arith}
use lib.Dec.{lit<}
use lib.Ieee.{Float}
use lib.ListN.{length, take, drop}
use lib.Seq.{length-take-le}
use borrow.Author.Tests.{ltb-false}
use Rattle.picture.specs.Planes.{cleared}
use Rattle.picture.specs.Sizes.{full_size, full_bytes}
use Rattle.picture.specs.declared.FullSize.{FullSize}
use Rattle.picture.specs.Refusal.{first_of, wrong_sides, too_short}
use Rattle.picture.proofs.Sizes.{whole}
use Rattle.picture.proofs.Passed.{passed}
use Rattle.picture.proofs.Tests.{neither}
use Rattle.binary32.specs.Ranges.{any_outside}
use Rattle.composite.specs.Shadow.{InUnit}
use Rattle.gaussian_blur.proofs.Outcomes.{cleared_over}
use Rattle.drop_shadow.specs.Shadowed.{colour_of}
use Rattle.drop_shadow.specs.Needs.{ShadowReady, ShadowAccepted}
use Rattle.drop_shadow.specs.Outcome.{either_short, not_finite, wrong_colour, shadow_checks}
use Rattle.drop_shadow.specs.declared.Recipe.{Recipe}

-- ---- a work buffer whose first a bytes were lent and came back as e, and of which the first k, at least as many, were cleared
cleared_whole : {a k m : ℕ} {z : List ℕ} (work e : List ℕ) → a ≤ k → k ≤ length work → length e ≡ length (take a work) → k ≡ m → z ≡ cleared k (e ++ drop a work) → z ≡ cleared m work
cleared_whole work e l fits kept is clear = clear ∙ cleared_over work e l fits kept ∙ ap (λ (n : ℕ). cleared n work) is

-- ---- an accepted call, whose plane and its scratch are the first w * h bytes of the work buffers
module _ {size : FullSize} {picture scratch copy : List ℕ} {weights : List Float} {recipe : Recipe} {k : ℕ} (r : ShadowAccepted size picture scratch copy weights recipe) (is : k ≡ full_bytes size) where
  pub scratch_part : length (take (k / 4) scratch) ≡ k / 4
  scratch_part = length-take-le (k / 4) scratch (omega (arith, r.scratch_room))

  pub copy_part : length (take (k / 4) copy) ≡ k / 4
  copy_part = length-take-le (k / 4) copy (omega (arith, r.copy_room))

  pub parts_ready : ShadowReady size (take (k / 4) scratch) (take (k / 4) copy) weights recipe
  parts_ready = let area : k / 4 ≡ size.w * size.h = omega arith in record { sized = r.pictured.sized; plane_is = copy_part ∙ area; scratch_is = scratch_part ∙ area; given = r.given }

  module _ {z : List ℕ} (e : List ℕ) where
    pub scratch_cleared : length e ≡ length (take (k / 4) scratch) → z ≡ cleared k (e ++ drop (k / 4) scratch) → z ≡ cleared (full_bytes size) scratch
    scratch_cleared kept = cleared_whole {a = k / 4} scratch e (omega arith) (omega (arith, r.scratch_room)) kept is

    pub copy_cleared : length e ≡ length (take (k / 4) copy) → z ≡ cleared k (e ++ drop (k / 4) copy) → z ≡ cleared (full_bytes size) copy
    copy_cleared kept = cleared_whole {a = k / 4} copy e (omega arith) (omega (arith, r.copy_room)) kept is

-- ---- no refusal
-- a colour that check 8 lets through
in_unit : (recipe : Recipe) → wrong_colour recipe ≡ false → InUnit (colour_of recipe)
unfolding wrong_colour any_outside
in_unit recipe e =
    let r = neither _ _ e in
    let g = neither _ _ r.1 in
    let b = neither _ _ g.1 in
    record { red = r.0; green = g.0; blue = b.0; alpha = (neither _ _ b.1).0 }

-- the sizes, the kernel and the recipe are as the work needs them
pub accepted : (p : List ℕ) (w h : ℕ) (s c : List ℕ) (weights : List Float) (n edge : ℕ) (recipe : Recipe) →
    0 ≡ first_of (shadow_checks (length p) w h (length s) (length c) weights n edge recipe) → (wrong_sides w h ≡ false) × ShadowAccepted (full_size w h) p s c weights recipe
unfolding too_short either_short not_finite
accepted p w h s c weights n edge recipe e =
    let one = passed _ _ (lit< tt) e in
    let two = passed _ _ (lit< tt) one.1 in
    let three = passed _ _ (lit< tt) two.1 in
    let four = passed _ _ (lit< tt) three.1 in
    let five = passed _ _ (lit< tt) four.1 in
    let six = passed _ _ (lit< tt) five.1 in
    let seven = passed _ _ (lit< tt) six.1 in
    let eight = passed _ _ (lit< tt) seven.1 in
    let room = neither _ _ three.0 in (
      one.0,
      record {
        pictured = whole p w h one.0 two.0;
        scratch_room = ltb-false _ _ room.0;
        copy_room = ltb-false _ _ room.1;
        given = record { kernel = record { counted = four.0; in_unit = five.0 }; offsets = (neither _ _ seven.0).0; colour = in_unit recipe eight.0 };
      },
    )
