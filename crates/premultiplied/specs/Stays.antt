-- If no channel of any pixel exceeds its alpha before, none does after a blur, a shift or a shadow: every weight list that the checks let through,
-- on the grid or not, every edge mode, n, strength, offset and colour, with or without the original over the shadow; and so of the blur in whole numbers (request 09).
use Rattle.std.specs.Prelude.{Bool, Result, List, ℕ, Float}
use contract.Lifetimes.{Lfts}
use borrow.Fn.Kinds.{Dens, ended_of}
use denote.Triple.Clauses.{AtExit}
use Rattle.picture.specs.declared.EdgeMode.{EdgeMode}
use Rattle.picture.specs.declared.checks.Refusal.{Refusal}
use Rattle.binary32.specs.declared.Offset.{Offset}
use Rattle.passes.specs.Kernel.{Kernel}
use Rattle.gaussian_blur.specs.Outcome.{blurred_or_kept}
use Rattle.gaussian_blur.proofs.blur.Reads as blur
use Rattle.gaussian_blur.proofs.blur.Kinds as blur_kinds
use Rattle.exact_blur.specs.Demand.{Bytes, LentBytes}
use Rattle.shift.specs.Shift.{shifted_picture}
use Rattle.shift.proofs.shift.Reads as shift
use Rattle.shift.proofs.shift.Kinds as shift_kinds
use Rattle.drop_shadow.specs.Shadowed.{shadowed}
use Rattle.drop_shadow.specs.declared.Recipe.{Recipe}
use Rattle.drop_shadow.proofs.shadow.Reads as shadow
use Rattle.drop_shadow.proofs.shadow.Kinds as shadow_kinds
use Rattle.grid_sums.specs.Room.{Numerators}
use Rattle.whole_blur.specs.Blurred.{whole_blurred}
use Rattle.whole_blur.proofs.blur_whole.Reads as whole
use Rattle.whole_blur.proofs.blur_whole.Kinds as whole_kinds
use Rattle.premultiplied.specs.Rule.{Premultiplied}

-- what is done to a picture of w by h pixels leaves bytes as bytes, and a premultiplied picture premultiplied
pub record KeepsPremultiplied (w h : ℕ) (work : List ℕ → List ℕ) : Type 0 where
  pub bytes : (p : List ℕ) → Bytes p → Bytes (work p)
  pub premultiplied : (p : List ℕ) → Bytes p → Premultiplied w h p → Premultiplied w h (work p)

-- of a call that was lent the picture `before`, of w by h pixels, and left it as `after`
abbrev pub LeavesPremultiplied : ℕ → ℕ → List ℕ → List ℕ → Type 0
LeavesPremultiplied w h before after = LentBytes before → Premultiplied w h before → Premultiplied w h after

pub record StaysPremultiplied : Type 0 where
  -- what an accepted blur, blur in whole numbers, shift and shadow make of a picture
  pub blurs : (mode : EdgeMode) (weights : List Float) → Kernel weights → (n : ℕ) (strength : Float) (w h : ℕ) → KeepsPremultiplied w h (blurred_or_kept mode weights n strength w h)
  pub wholes : (mode : EdgeMode) (ms : List ℕ) → Numerators ms → (n w h : ℕ) → KeepsPremultiplied w h (whole_blurred mode ms n w h)
  pub shifts : (dx dy : Offset) (w h : ℕ) → KeepsPremultiplied w h (shifted_picture dx dy w h)
  pub shadows : (mode : EdgeMode) (weights : List Float) (n : ℕ) (recipe : Recipe) (composite : Bool) (w h : ℕ) → KeepsPremultiplied w h (shadowed mode weights n recipe composite w h)
  -- each entry by its contract, whatever it answers: a refused call leaves the picture as it was
  pub blur : (κs : Lfts 3) (a : Dens κs blur_kinds.ps) (r : Result Unit Refusal) (left : AtExit (ended_of 3 blur_kinds.ps blur_kinds.r) κs) → blur.Post κs a r left →
      LeavesPremultiplied a.1.0 a.1.1.0 a.0.now left.0.now
  pub whole : (κs : Lfts 3) (a : Dens κs whole_kinds.ps) (r : Result Unit Refusal) (left : AtExit (ended_of 3 whole_kinds.ps whole_kinds.r) κs) → whole.Post κs a r left →
      LeavesPremultiplied a.1.0 a.1.1.0 a.0.now left.0.now
  pub shift : (κs : Lfts 1) (a : Dens κs shift_kinds.ps) (r : Result Unit Refusal) (left : AtExit (ended_of 1 shift_kinds.ps shift_kinds.r) κs) → shift.Post κs a r left →
      LeavesPremultiplied a.1.0 a.1.1.0 a.0.now left.0.now
  pub shadow : (κs : Lfts 4) (a : Dens κs shadow_kinds.ps) (r : Result Unit Refusal) (left : AtExit (ended_of 4 shadow_kinds.ps shadow_kinds.r) κs) → shadow.Post κs a r left →
      LeavesPremultiplied a.1.0 a.1.1.0 a.0.now left.0.now
