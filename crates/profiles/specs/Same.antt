-- The whole-number blur gives the bytes of the float blur that is given its numerators as weights and a strength above zero (request 04).
use Rattle.std.specs.Prelude.{◌≡◌, true, false, List, map, ℕ, ◌≤◌, ◌<◌, Float}
use Rattle.std.specs.Float.{binary32}
use Rattle.std.specs.Float.Ieee.{round}
use Rattle.picture.specs.Planes.{chan}
use Rattle.picture.specs.declared.EdgeMode.{EdgeMode}
use Rattle.binary32.specs.Ranges.{finite}
use Rattle.binary32.specs.Grid.{numerators, all_on_grid, sum}
use Rattle.gaussian_blur.specs.Blurred.{blurred}
use Rattle.gaussian_blur.specs.Outcome.{above_zero, blur_outcome}
use Rattle.exact_blur.specs.Exact.{exact_blur}
use Rattle.exact_blur.specs.Demand.{steps_of, Within, Bytes}
use Rattle.whole_blur.specs.Blurred.{whole_blurred}
use Rattle.whole_blur.specs.Outcome.{whole_outcome}

-- those weights: any on the grid whose numerators these are, minus zero for 0 too
pub record WeightsOf (ms : List ℕ) (weights : List Float) : Type 0 where
  pub on_grid : all_on_grid weights ≡ true
  pub are : numerators weights ≡ ms

-- m / 65536 in binary32
abbrev pub weight_on_grid : ℕ → Float
weight_on_grid m = round binary32 false m 65536

-- there are such weights
abbrev pub HaveWeights : Type 0
HaveWeights = (ms : List ℕ) → sum ms ≤ 65536 → WeightsOf ms (map weight_on_grid ms)

-- the same bytes, of every picture, edge mode and n
abbrev pub SameAsFloat : Type 0
SameAsFloat =
    (ms : List ℕ) (weights : List Float) → WeightsOf ms weights → sum ms ≤ 65536 → (mode : EdgeMode) (n w h : ℕ) (p : List ℕ) → Bytes p →
    whole_blurred mode ms n w h p ≡ blurred mode weights n w h p

-- the same answers, of every call with such a kernel: the number of a refusal, and what is left of picture and scratch
abbrev pub SameAnswers : Type 0
SameAnswers =
    (ms : List ℕ) (weights : List Float) → WeightsOf ms weights → sum ms ≤ 65536 → (strength : Float) → finite strength ≡ true → above_zero strength ≡ true →
    (p : List ℕ) (w h : ℕ) (s : List ℕ) (n edge : ℕ) → Bytes p → whole_outcome p w h s ms n edge ≡ blur_outcome p w h s weights n strength edge

-- and so within 2n+1 steps of the exact blur, as demand 3 asks it of the float blur
abbrev pub WholeNearExact : Type 0
WholeNearExact =
    (ms : List ℕ) → sum ms ≤ 65536 → (mode : EdgeMode) (n w h : ℕ) (p : List ℕ) → Bytes p → (c x y : ℕ) → c < 4 → x < w → y < h →
    Within (steps_of n) n (chan (whole_blurred mode ms n w h p) w c x y) (exact_blur mode ms n w h (chan p w c) x y)
