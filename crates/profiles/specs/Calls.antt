-- The same of the entries by their generated contracts, whatever they answer but where it is said (request 04).
use Rattle.std.specs.Prelude.{◌≡◌, true, Result, List, ℕ, ◌≤◌, ◌<◌}
use contract.Lifetimes.{Lfts}
use borrow.Fn.Kinds.{Dens, ended_of}
use denote.Triple.Clauses.{AtExit}
use Rattle.picture.specs.Planes.{chan}
use Rattle.picture.specs.Modes.{mode_of}
use Rattle.picture.specs.Refusal.{number_of}
use Rattle.picture.specs.declared.checks.Refusal.{Refusal}
use Rattle.picture.specs.declared.EdgeMode.TheVariants.{None}
use Rattle.binary32.specs.Ranges.{finite}
use Rattle.binary32.specs.Grid.{sum}
use Rattle.gaussian_blur.specs.Outcome.{above_zero}
use Rattle.gaussian_blur.proofs.blur.Reads as blur
use Rattle.gaussian_blur.proofs.blur.Kinds as blur-kinds
use Rattle.exact_blur.specs.Exact.{exact_blur}
use Rattle.exact_blur.specs.Demand.{steps_of, Within, LentBytes}
use Rattle.whole_blur.proofs.blur_whole.Reads as whole
use Rattle.whole_blur.proofs.blur_whole.Kinds as whole_Kinds
use Rattle.profiles.specs.Same.{WeightsOf}
use Rattle.profiles.specs.Between.{InRange, least_of, greatest_of}

-- what the two blurs are given alike: all but the kernel and the strength
pub record BlurInput : Type 0 where
  pub picture : List ℕ
  pub w : ℕ
  pub h : ℕ
  pub scratch : List ℕ
  pub n : ℕ
  pub edge : ℕ

abbrev pub whole_input : (κs : Lfts 3) → Dens κs whole_Kinds.ps → BlurInput
whole_input κs a =
    let rest = a.1.1.1.1.1 in
    record { picture = a.0.now; w = a.1.0; h = a.1.1.0; scratch = a.1.1.1.0.now; n = rest.0; edge = rest.1.0 }

abbrev pub float_input : (κs : Lfts 3) → Dens κs blur-kinds.ps → BlurInput
float_input κs b =
    let rest = b.1.1.1.1.1 in
    record { picture = b.0.now; w = b.1.0; h = b.1.1.0; scratch = b.1.1.1.0.now; n = rest.0; edge = rest.1.1.0 }

-- one call with numerators, and one with such weights and a strength above zero: the same answer, picture and scratch
abbrev pub SameCalls : Type 0
SameCalls =
    (κs κs' : Lfts 3) (a : Dens κs whole_Kinds.ps) (b : Dens κs' blur-kinds.ps) (r r' : Result Unit Refusal)
    (left : AtExit (ended_of 3 whole_Kinds.ps whole_Kinds.r) κs) (left' : AtExit (ended_of 3 blur-kinds.ps blur-kinds.r) κs') →
    whole.Post κs a r left → blur.Post κs' b r' left' → whole_input κs a ≡ float_input κs' b →
    let ms = a.1.1.1.1.0.now in
    let weights = b.1.1.1.1.0.now in
    let strength = b.1.1.1.1.1.1.0 in
    WeightsOf ms weights → sum ms ≤ 65536 → finite strength ≡ true → above_zero strength ≡ true → LentBytes a.0.now →
    (r ≡ r') × (left.0.now ≡ left'.0.now) × (left.1.1.1.0.now ≡ left'.1.1.1.0.now)

-- each channel that a call leaves lies between that channel's least and greatest before
abbrev pub LeavesBetween : Type 0
LeavesBetween =
    (κs : Lfts 3) (a : Dens κs whole_Kinds.ps) (r : Result Unit Refusal) (left : AtExit (ended_of 3 whole_Kinds.ps whole_Kinds.r) κs) → whole.Post κs a r left →
    let i = whole_input κs a in
    sum a.1.1.1.1.0.now ≡ 65536 → (mode_of i.edge ≡ None → ⊥) → (c : ℕ) → c < 4 →
    InRange (least_of i.w i.h (chan i.picture i.w c)) (greatest_of i.w i.h (chan i.picture i.w c)) i.w i.h c left.0.now

-- and where a call answers 0, it is near the exact blur
abbrev pub LeavesNearExact : Type 0
LeavesNearExact =
    (κs : Lfts 3) (a : Dens κs whole_Kinds.ps) (r : Result Unit Refusal) (left : AtExit (ended_of 3 whole_Kinds.ps whole_Kinds.r) κs) → whole.Post κs a r left → number_of r ≡ 0 →
    let i = whole_input κs a in
    LentBytes i.picture → (c x y : ℕ) → c < 4 → x < i.w → y < i.h →
    Within (steps_of i.n) i.n (chan left.0.now i.w c x y) (exact_blur (mode_of i.edge) a.1.1.1.1.0.now i.n i.w i.h (chan i.picture i.w c) x y)
