-- What is promised of shares: they explain the exact blur, the axes separate, and all of one output come to the whole.
use Rattle.std.specs.Prelude.{◌≡◌, true, Result, List, ℕ, ◌+◌, ◌*◌, ◌/◌, ◌%◌, ◌≤◌, ◌<◌, Float, get_or}
use contract.Lifetimes.{Lfts}
use borrow.Fn.Kinds.{Dens, ended_of}
use denote.Triple.Clauses.{AtExit}
use Rattle.picture.specs.Planes.{Plane, chan}
use Rattle.picture.specs.Modes.{mode_of}
use Rattle.picture.specs.Refusal.{number_of}
use Rattle.picture.specs.declared.EdgeMode.{EdgeMode}
use Rattle.picture.specs.declared.checks.Refusal.{Refusal}
use Rattle.picture.specs.declared.EdgeMode.TheVariants.{None}
use Rattle.binary32.specs.Grid.{numerators, sum}
use Rattle.binary32.specs.Taps.{sum_to}
use Rattle.gaussian_blur.specs.Blurred.{blurred}
use Rattle.gaussian_blur.specs.Outcome.{above_zero}
use Rattle.gaussian_blur.proofs.blur.Reads as blur
use Rattle.gaussian_blur.proofs.blur.Kinds as kinds
use Rattle.exact_blur.specs.Exact.{exact_blur, scale_of}
use Rattle.exact_blur.specs.Demand.{steps_of, Within, GridKernel, Bytes, LentBytes}
use Rattle.share_laws.specs.Share.{share, share_at, axis_scale, axis_share}

-- summed over all inputs, share times channel is the exact blur, for every picture
abbrev pub Explained : Type 0
Explained =
    (mode : EdgeMode) (ms : List ℕ) (n w h : ℕ) (p : Plane) (ox oy : ℕ) → 0 < w → 0 < h →
    exact_blur mode ms n w h p ox oy ≡ sum_to (λ k. p (k % w) (k / w) * share mode ms n w h ox oy (k % w) (k / w)) (w * h)

-- the same sum, of channel c of a picture's bytes: pixel k's stands at byte 4k + c
abbrev pub explained_sum : EdgeMode → List ℕ → ℕ → ℕ → ℕ → List ℕ → ℕ → ℕ → ℕ
explained_sum mode ms n w h bytes c out = sum_to (λ k. get_or bytes (4 * k + c) 0 * share_at mode ms n w h out k) (w * h)

abbrev pub ExplainedBytes : Type 0
ExplainedBytes =
    (mode : EdgeMode) (ms : List ℕ) (n w h : ℕ) (bytes : List ℕ) (c out : ℕ) → 0 < w → 0 < h →
    exact_blur mode ms n w h (chan bytes w c) (out % w) (out / w) ≡ explained_sum mode ms n w h bytes c out

-- every channel c of every pixel of a picture is near the sum that its shares make of p
abbrev pub NearShares : EdgeMode → List Float → ℕ → ℕ → ℕ → List ℕ → List ℕ → Type 0
NearShares mode weights n w h p picture =
    (c out : ℕ) → c < 4 → out < w * h → Within (steps_of n) n (get_or picture (4 * out + c) 0) (explained_sum mode (numerators weights) n w h p c out)

-- of demand 2's definition
abbrev pub SharesOfTheBlur : Type 0
SharesOfTheBlur =
    (mode : EdgeMode) (weights : List Float) → GridKernel weights → (n w h : ℕ) (p : List ℕ) → Bytes p → NearShares mode weights n w h p (blurred mode weights n w h p)

-- of what a call of the entry `blur` that answers 0 leaves in the lent picture, where the strength is above zero
abbrev pub SharesOfTheEntry : Type 0
SharesOfTheEntry =
    (κs : Lfts 3) (a : Dens κs kinds.ps) (r : Result Unit Refusal) (left : AtExit (ended_of 3 kinds.ps kinds.r) κs) → blur.Post κs a r left → number_of r ≡ 0 →
    let p = a.0.now in
    let w = a.1.0 in
    let h = a.1.1.0 in
    let weights = a.1.1.1.1.0.now in
    let n = a.1.1.1.1.1.0 in
    let strength = a.1.1.1.1.1.1.0 in
    let edge = a.1.1.1.1.1.1.1.0 in
    above_zero strength ≡ true → GridKernel weights → LentBytes p → NearShares (mode_of edge) weights n w h p left.0.now

-- the shares of the two axes multiply
abbrev pub Separate : Type 0
Separate =
    (mode : EdgeMode) (ms : List ℕ) (n w h ox oy ix iy : ℕ) →
    share mode ms n w h ox oy ix iy ≡ axis_share mode ms n w ox ix * axis_share mode ms n h oy iy

-- in any mode but None and with numerators that sum to 65536, the shares of one output come to 2^(10n+32)
abbrev pub SharesWhole : Type 0
SharesWhole =
    (mode : EdgeMode) → (mode ≡ None → ⊥) → (ms : List ℕ) → sum ms ≡ 65536 → (n w h out : ℕ) → 0 < w → 0 < h →
    sum_to (share_at mode ms n w h out) (w * h) ≡ scale_of n

-- no share is above that, and none along an axis above 2^(5n+16), where the numerators sum to at most 65536
abbrev pub SharesBounded : Type 0
SharesBounded =
    (mode : EdgeMode) (ms : List ℕ) → sum ms ≤ 65536 → (n w h ox oy ix iy : ℕ) →
    (axis_share mode ms n w ox ix ≤ axis_scale n) × (share mode ms n w h ox oy ix iy ≤ scale_of n)
