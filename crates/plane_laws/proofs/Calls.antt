-- What the contracts say of a call, in both forms at once and over the operation; and what follows from it for every call.
use mathlib.Core.Path.{◌≡◌, ap}
use mathlib.Core.List.{List, []}
use Prim.Native.Nat.{ℕ}
use lib.ListN.{length}
use Rattle.picture.specs.Planes.{cleared}
use Rattle.picture.specs.Sizes.{full_bytes}
use Rattle.picture.specs.Modes.{mode_of}
use Rattle.picture.specs.Refusal.{Check, number_of, first_of}
use Rattle.picture.specs.Answer.{Answer, answered, Lent, LentCopy, lent_copy, settled}
use Rattle.picture.specs.declared.FullSize.{FullSize}
use Rattle.picture.proofs.Planes.{length_painted}
use Rattle.picture.proofs.Settled.{read, settle}
use Rattle.binary32.specs.Round.{whole_offset}
use Rattle.gaussian_blur.specs.Outcome.{blur_checks, blurred_or_kept, blur_outcome}
use Rattle.shift.specs.Shift.{shifted_picture}
use Rattle.shift.specs.Outcome.{shift_checks, shift_outcome}
use Rattle.drop_shadow.specs.Shadowed as casting
use Rattle.drop_shadow.specs.Outcome.{shadow_checks, shadow_outcome}
use Rattle.planes.specs.Planar.{planar, interleaved, on_planes}
use Rattle.planes.specs.Outcome.{converted_outcome}
use Rattle.plane_blur.specs.Outcome.{blur_planes_outcome}
use Rattle.plane_blur.proofs.Same.{blur_long}
use Rattle.plane_shift.specs.Shifted.{shift_planes_outcome}
use Rattle.plane_shadow.specs.Outcome.{shadow_planes_outcome}
use Rattle.plane_shadow.proofs.Same.{shadow_long}
use Rattle.plane_laws.specs.Calls.{Conversion, converted, EachTo, EachFrom, Operation, blur, shift, shadow, Given, Work, blurred, shifted, shadowed, shadowed_from_c, OnPlanes, OnPicture}

-- ---- converting
abbrev pub Converts : (ℕ → ℕ → List ℕ → List ℕ) → Conversion → Type 0
Converts form k = answered k.number k.made ≡ converted_outcome form k.src k.size.w k.size.h k.room

pub each_to : (P : Conversion → Type 0) → ((k : Conversion) → Converts planar k → P k) → EachTo P
each_to P f = (λ κs a v x. f (converted κs a (number_of v) x), λ κs a v x. f (converted κs a v x))

pub each_from : (P : Conversion → Type 0) → ((k : Conversion) → Converts interleaved k → P k) → EachFrom P
each_from P f = (λ κs a v x. f (converted κs a (number_of v) x), λ κs a v x. f (converted κs a v x))

-- ---- working: an operation's checks, what it makes of a picture, and what it leaves of its work buffers
abbrev pub checks : (o : Operation) → Given o → FullSize → ℕ → ℕ → ℕ → List Check
checks blur g z p s c = blur_checks p z.w z.h s g.0 g.1 g.2 g.3
checks shift g z p s c = shift_checks p z.w z.h g.0 g.1
checks shadow g z p s c = shadow_checks p z.w z.h s c g.0 g.1 g.2 g.3

abbrev pub made : (o : Operation) → Given o → FullSize → List ℕ → List ℕ
made blur g z = blurred_or_kept (mode_of g.3) g.0 g.1 g.2 z.w z.h
made shift g z = shifted_picture (whole_offset g.0) (whole_offset g.1) z.w z.h
made shadow g z = casting.shadowed (mode_of g.2) g.0 g.1 g.3 g.4 z.w z.h

abbrev pub scratch_left : Operation → ℕ → List ℕ → List ℕ
scratch_left blur n s = cleared n s
scratch_left shift n s = s
scratch_left shadow n s = cleared n s

abbrev pub copy_left : Operation → ℕ → List ℕ → List ℕ
copy_left blur n c = c
copy_left shift n c = c
copy_left shadow n c = cleared n c

-- what is made of a picture has its length
pub made_long : (o : Operation) (g : Given o) (z : FullSize) (p : List ℕ) → length p ≡ full_bytes z → length (made o g z p) ≡ full_bytes z
unfolding shifted_picture
made_long blur g z p e = blur_long z.w z.h p e (mode_of g.3) g.0 g.1 g.2
made_long shift g z p e = length_painted z.w z.h _
made_long shadow g z p e = shadow_long z.w z.h p e (mode_of g.2) g.0 g.1 g.3 g.4

-- an operation on a picture's bytes, as a form of the picture has it
abbrev pub Form : Type 0
Form = ℕ → ℕ → (List ℕ → List ℕ) → List ℕ → List ℕ

abbrev pub on_picture : Form
on_picture w h op p = op p

module _ (o : Operation) (form : Form) where
  -- refused, and everything as it was; or the work in this form, and the work buffers as the operation leaves them
  abbrev pub outcome : Given o → FullSize → LentCopy → Answer LentCopy
  outcome g z l =
      settled (first_of (checks o g z (length l.picture) (length l.scratch) (length l.copy))) l
      (lent_copy (form z.w z.h (made o g z) l.picture) (scratch_left o (full_bytes z) l.scratch) (copy_left o (full_bytes z) l.copy))

  abbrev pub Works : Work o → Type 0
  Works k = answered k.number k.after ≡ outcome k.given k.size k.before

-- what a contract says of the buffers that are lent, said of all three
beside : {A B : Type 0} (f : A → B) (refusal : ℕ) (before after : A) {r : ℕ} {left : A} → answered r left ≡ settled refusal before after → answered r (f left) ≡ settled refusal (f before) (f after)
beside f refusal before after {r} {left} e =
    let t = read refusal before after r left e in
    settle refusal (f before) (f after) r (f left) (record { number = t.number; unchanged = λ n. ap f (t.unchanged n); finished = λ z. ap f (t.finished z) })

abbrev no_copy : Lent → LentCopy
no_copy l = lent_copy l.picture l.scratch []

abbrev picture_only : List ℕ → LentCopy
picture_only p = lent_copy p [] []

pub each_on_planes : (o : Operation) (P : Work o → Type 0) → ((k : Work o) → Works o on_planes k → P k) → OnPlanes o P
unfolding blur_planes_outcome shift_planes_outcome shadow_planes_outcome
each_on_planes blur P f = (λ κs a v x e. f (blurred κs a (number_of v) x) (beside no_copy _ _ _ e), λ κs a v x e. f (blurred κs a v x) (beside no_copy _ _ _ e))
each_on_planes shift P f = (λ κs a v x e. f (shifted κs a (number_of v) x) (beside picture_only _ _ _ e), λ κs a v x e. f (shifted κs a v x) (beside picture_only _ _ _ e))
each_on_planes shadow P f = (λ κs a v x. f (shadowed κs a (number_of v) x), λ κs a v x. f (shadowed_from_c κs a v x))

pub each_on_picture : (o : Operation) (P : Work o → Type 0) → ((k : Work o) → Works o on_picture k → P k) → OnPicture o P
unfolding blur_outcome shift_outcome shadow_outcome
each_on_picture blur P f = (λ κs a v x e. f (blurred κs a (number_of v) x) (beside no_copy _ _ _ e), λ κs a v x e. f (blurred κs a v x) (beside no_copy _ _ _ e))
each_on_picture shift P f = (λ κs a v x e. f (shifted κs a (number_of v) x) (beside picture_only _ _ _ e), λ κs a v x e. f (shifted κs a v x) (beside picture_only _ _ _ e))
each_on_picture shadow P f = (λ κs a v x. f (shadowed κs a (number_of v) x), λ κs a v x. f (shadowed_from_c κs a v x))
