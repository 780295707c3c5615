-- The calls of request 13, from Rattle and from C: what each was lent and given, and what it answered and left.
use Rattle.std.specs.Prelude.{Bool, List, [], ℕ, Float}
use contract.Lifetimes.{Lfts}
use borrow.Fn.Kinds.{ParamKind, ResultKind, Out, Dens, res_t, ended_of}
use denote.Triple.Clauses.{AtExit}
use Rattle.picture.specs.Sizes.{full_size}
use Rattle.picture.specs.Refusal.{number_of}
use Rattle.picture.specs.Answer.{LentCopy, lent_copy}
use Rattle.picture.specs.declared.FullSize.{FullSize}
use Rattle.drop_shadow.specs.declared.Recipe.{Recipe}
use Rattle.face_filters.specs.Words.{recipe, flag}
use Rattle.planes.proofs.to_planes.Reads as to
use Rattle.planes.proofs.to_planes.Kinds as converting
use Rattle.planes.proofs.from_planes.Reads as from
use Rattle.gaussian_blur.proofs.blur.Reads as blur-picture
use Rattle.gaussian_blur.proofs.blur.Kinds as blurring
use Rattle.plane_blur.proofs.blur_planes.Reads as blur-planes
use Rattle.shift.proofs.shift.Reads as shift-picture
use Rattle.shift.proofs.shift.Kinds as shifting
use Rattle.plane_shift.proofs.shift_planes.Reads as shift-planes
use Rattle.drop_shadow.proofs.shadow.Reads as shadow-picture
use Rattle.drop_shadow.proofs.shadow.Kinds as shadowing
use Rattle.plane_shadow.proofs.shadow_planes.Reads as shadow-planes
use Rattle.face_planes.proofs.corbelrush_to_planes.Reads as to-c
use Rattle.face_planes.proofs.corbelrush_to_planes.Kinds as converting-c
use Rattle.face_planes.proofs.corbelrush_from_planes.Reads as from_c
use Rattle.face_filters.proofs.filters.corbelrush_blur.Reads as blur-picture-c
use Rattle.face_filters.proofs.filters.corbelrush_blur.Kinds as blurring-c
use Rattle.face_planes.proofs.corbelrush_blur_planes.Reads as blur-planes-c
use Rattle.face_filters.proofs.filters.corbelrush_shift.Reads as shift-picture-c
use Rattle.face_filters.proofs.filters.corbelrush_shift.Kinds as shifting-c
use Rattle.face_planes.proofs.corbelrush_shift_planes.Reads as shift-planes-c
use Rattle.face_filters.proofs.filters.corbelrush_shadow.Reads as shadow-picture-c
use Rattle.face_filters.proofs.filters.corbelrush_shadow.Kinds as shadowing-c
use Rattle.face_planes.proofs.corbelrush_shadow_planes.Reads as shadow-planes-c

-- of every call that a contract allows; `call` makes it of the arguments, the answer's number and what is left
abbrev pub EachCall : {n : ℕ} (ps : List (ParamKind n)) (r : ResultKind n) {K : Type 0} → Out n ps r → ((κs : Lfts n) → (res_t r κs).Denot → ℕ) → ((κs : Lfts n) → Dens κs ps → ℕ → AtExit (ended_of n ps r) κs → K) → (K → Type 0) → Type 0
EachCall {n} ps r Post number call P = (κs : Lfts n) (a : Dens κs ps) (v : (res_t r κs).Denot) (x : AtExit (ended_of n ps r) κs) → Post κs a v x → P (call κs a (number κs v) x)

-- ---- converting, either way
-- what is read, of this size, and the room for the other form before and after
pub record Conversion : Type 0 where
  pub size : FullSize
  pub src : List ℕ
  pub room : List ℕ
  pub number : ℕ
  pub made : List ℕ

abbrev pub converted : (κs : Lfts 2) → Dens κs converting.ps → ℕ → AtExit (ended_of 2 converting.ps converting.r) κs → Conversion
converted κs a r x = record { size = full_size a.1.0 a.1.1.0; src = a.0.now; room = a.1.1.1.0.now; number = r; made = x.1.1.1.0.now }

-- of every call to planes, and of every call from them: from Rattle, and from C
abbrev pub EachTo : (Conversion → Type 0) → Type 0
EachTo P = EachCall converting.ps converting.r to.Post (λ κs v. number_of v) converted P × EachCall converting-c.ps converting-c.r to-c.Post (λ κs v. v) converted P

abbrev pub EachFrom : (Conversion → Type 0) → Type 0
EachFrom P = EachCall converting.ps converting.r from.Post (λ κs v. number_of v) converted P × EachCall converting-c.ps converting-c.r from_c.Post (λ κs v. v) converted P

-- ---- working
pub data Operation : Type 0 where
  blur shift shadow : Operation

-- what an operation is given beside a size and buffers
abbrev pub Given : Operation → Type 0
Given blur = List Float × ℕ × Float × ℕ
Given shift = Float × Float
Given shadow = List Float × ℕ × ℕ × Recipe × Bool

-- a call of an operation, on a picture or on its planes; a work buffer that it is not lent is empty
pub record Work (o : Operation) : Type 0 where
  pub size : FullSize
  pub given : Given o
  pub before : LentCopy
  pub number : ℕ
  pub after : LentCopy

abbrev pub blurred : (κs : Lfts 3) → Dens κs blurring.ps → ℕ → AtExit (ended_of 3 blurring.ps blurring.r) κs → Work blur
blurred κs a r x =
    let rest = a.1.1.1 in
    record {
      size = full_size a.1.0 a.1.1.0;
      given = (rest.1.0.now, rest.1.1.0, rest.1.1.1.0, rest.1.1.1.1.0);
      before = lent_copy a.0.now rest.0.now [];
      number = r;
      after = lent_copy x.0.now x.1.1.1.0.now [];
    }

abbrev pub shifted : (κs : Lfts 1) → Dens κs shifting.ps → ℕ → AtExit (ended_of 1 shifting.ps shifting.r) κs → Work shift
shifted κs a r x =
    record {
      size = full_size a.1.0 a.1.1.0;
      given = (a.1.1.1.0, a.1.1.1.1.0);
      before = lent_copy a.0.now [] [];
      number = r;
      after = lent_copy x.0.now [] [];
    }

abbrev pub shadowed : (κs : Lfts 4) → Dens κs shadowing.ps → ℕ → AtExit (ended_of 4 shadowing.ps shadowing.r) κs → Work shadow
shadowed κs a r x =
    let rest = a.1.1.1 in
    let given = rest.1.1.1 in
    record {
      size = full_size a.1.0 a.1.1.0;
      given = (rest.1.1.0.now, given.0, given.1.0, given.1.1.0, given.1.1.1.0);
      before = lent_copy a.0.now rest.0.now rest.1.0.now;
      number = r;
      after = lent_copy x.0.now x.1.1.1.0.now x.1.1.1.1.0.now;
    }

-- from C, where the recipe is seven numbers and a flag says whether the original is composited
abbrev pub shadowed_from_c : (κs : Lfts 4) → Dens κs shadowing-c.ps → ℕ → AtExit (ended_of 4 shadowing-c.ps shadowing-c.r) κs → Work shadow
shadowed_from_c κs a r x =
    let rest = a.1.1.1 in
    let given = rest.1.1.1 in
    let named = given.1.1 in
    let colour = named.1.1.1 in
    record {
      size = full_size a.1.0 a.1.1.0;
      given = (rest.1.1.0.now, given.0, given.1.0, recipe named.0 named.1.0 named.1.1.0 colour.0 colour.1.0 colour.1.1.0 colour.1.1.1.0, flag colour.1.1.1.1.0);
      before = lent_copy a.0.now rest.0.now rest.1.0.now;
      number = r;
      after = lent_copy x.0.now x.1.1.1.0.now x.1.1.1.1.0.now;
    }

-- of every call of an operation on planes, and of every one on a picture: from Rattle, and from C
abbrev pub OnPlanes : (o : Operation) → (Work o → Type 0) → Type 0
OnPlanes blur P = EachCall blurring.ps blurring.r blur-planes.Post (λ κs v. number_of v) blurred P × EachCall blurring-c.ps blurring-c.r blur-planes-c.Post (λ κs v. v) blurred P
OnPlanes shift P = EachCall shifting.ps shifting.r shift-planes.Post (λ κs v. number_of v) shifted P × EachCall shifting-c.ps shifting-c.r shift-planes-c.Post (λ κs v. v) shifted P
OnPlanes shadow P = EachCall shadowing.ps shadowing.r shadow-planes.Post (λ κs v. number_of v) shadowed P × EachCall shadowing-c.ps shadowing-c.r shadow-planes-c.Post (λ κs v. v) shadowed_from_c P

abbrev pub OnPicture : (o : Operation) → (Work o → Type 0) → Type 0
OnPicture blur P = EachCall blurring.ps blurring.r blur-picture.Post (λ κs v. number_of v) blurred P × EachCall blurring-c.ps blurring-c.r blur-picture-c.Post (λ κs v. v) blurred P
OnPicture shift P = EachCall shifting.ps shifting.r shift-picture.Post (λ κs v. number_of v) shifted P × EachCall shifting-c.ps shifting-c.r shift-picture-c.Post (λ κs v. v) shifted P
OnPicture shadow P = EachCall shadowing.ps shadowing.r shadow-picture.Post (λ κs v. number_of v) shadowed P × EachCall shadowing-c.ps shadowing-c.r shadow-picture-c.Post (λ κs v. v) shadowed_from_c P
