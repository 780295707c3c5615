-- Demand 3: on the 1/65536 grid every blurred channel is within 2n+1 steps of the exact blur, all edge modes, all sizes, every n.
use Rattle.std.specs.Prelude.{◌≡◌, true, Result, List, ℕ, ◌+◌, ◌*◌, ◌≤◌, ◌<◌, Float, length, get_or}
use Rattle.std.specs.Int.{w8}
use contract.Lifetimes.{Lfts}
use borrow.Fn.Kinds.{Dens, ended_of}
use borrow.Rule.Slice.Know.{Fit}
use borrow.Table.Referent.{f_int}
use denote.Triple.Clauses.{AtExit}
use Rattle.picture.specs.Planes.{chan}
use Rattle.picture.specs.Modes.{mode_of}
use Rattle.picture.specs.Refusal.{number_of, first_of}
use Rattle.picture.specs.declared.EdgeMode.{EdgeMode}
use Rattle.picture.specs.declared.checks.Refusal.{Refusal}
use Rattle.binary32.specs.Grid.{numerators, all_on_grid, sum}
use Rattle.gaussian_blur.specs.Blurred.{blurred}
use Rattle.gaussian_blur.specs.Outcome.{blur_checks, above_zero}
use Rattle.gaussian_blur.proofs.blur.Reads as blur
use Rattle.gaussian_blur.proofs.blur.Kinds as kinds
use Rattle.exact_blur.specs.Exact.{exact_blur, scale_of}

-- how many steps the blur with n decimations may be away
abbrev pub steps_of : ℕ → ℕ
steps_of n = 2 * n + 1

-- a channel is within k steps of an exact number: channel times 2^(10n+32) differs from it by at most k times 2^(10n+32)
pub record Within (k n channel exact : ℕ) : Type 0 where
  pub low : channel * scale_of n ≤ exact + k * scale_of n
  pub high : exact ≤ channel * scale_of n + k * scale_of n

-- weights on the grid, with numerators that sum to at most 65536
pub record GridKernel (weights : List Float) : Type 0 where
  pub on_grid : all_on_grid weights ≡ true
  pub fits : sum (numerators weights) ≤ 65536

-- every channel c of every pixel x, y of a picture is near the exact blur of p
abbrev pub NearExact : EdgeMode → List Float → ℕ → ℕ → ℕ → List ℕ → List ℕ → Type 0
NearExact mode weights n w h p picture =
    (c x y : ℕ) → c < 4 → x < w → y < h → Within (steps_of n) n (chan picture w c x y) (exact_blur mode (numerators weights) n w h (chan p w c) x y)

-- a list of bytes
abbrev pub Bytes : List ℕ → Type 0
Bytes p = (i : ℕ) → get_or p i 0 ≤ 255

-- of demand 2's definition
abbrev pub OfTheBlur : Type 0
OfTheBlur =
    (mode : EdgeMode) (weights : List Float) → GridKernel weights → (n w h : ℕ) (p : List ℕ) → Bytes p → NearExact mode weights n w h p (blurred mode weights n w h p)

-- each element fits a u8: no condition on a caller, but what owning a lent u8 slice gives (`slice-known` where a function calls the entry)
abbrev pub LentBytes : List ℕ → Type 0
LentBytes p = Fit (f_int w8) 0 p

-- as a grader reads it, of the entry's contract: what a call that answers 0 leaves in the lent picture, where the strength is above zero
abbrev pub OfTheEntry : Type 0
OfTheEntry =
    (κs : Lfts 3) (a : Dens κs kinds.ps) (r : Result Unit Refusal) (left : AtExit (ended_of 3 kinds.ps kinds.r) κs) → blur.Post κs a r left → number_of r ≡ 0 →
    let p = a.0.now in
    let w = a.1.0 in
    let h = a.1.1.0 in
    let weights = a.1.1.1.1.0.now in
    let n = a.1.1.1.1.1.0 in
    let strength = a.1.1.1.1.1.1.0 in
    let edge = a.1.1.1.1.1.1.1.0 in
    above_zero strength ≡ true → GridKernel weights → LentBytes p → NearExact (mode_of edge) weights n w h p left.0.now

-- up to 14 decimations: a call that is accepted with none is accepted with n of them, and what it leaves is within 2n+1 steps
abbrev pub UpTo14 : Type 0
UpTo14 =
    (κs : Lfts 3) (a : Dens κs kinds.ps) (r : Result Unit Refusal) (left : AtExit (ended_of 3 kinds.ps kinds.r) κs) → blur.Post κs a r left →
    let p = a.0.now in
    let w = a.1.0 in
    let h = a.1.1.0 in
    let weights = a.1.1.1.1.0.now in
    let n = a.1.1.1.1.1.0 in
    let strength = a.1.1.1.1.1.1.0 in
    let edge = a.1.1.1.1.1.1.1.0 in
    0 ≡ first_of (blur_checks (length p) w h (length a.1.1.1.0.now) weights 0 strength edge) → n ≤ 14 →
    above_zero strength ≡ true → GridKernel weights → LentBytes p → (number_of r ≡ 0) × NearExact (mode_of edge) weights n w h p left.0.now
