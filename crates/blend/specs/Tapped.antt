-- Taps: the bytes of the four elements that an output of a line is blended of, and their weights.
use Rattle.std.specs.Prelude.{◌≡◌, List, ℕ, ◌+◌, ◌*◌, ◌/◌, ◌≤◌, ◌<◌, ◌^◌, length, get_or, Option, Some, None}
use Rattle.picture.specs.Sizes.{side_room}
use Rattle.passes.specs.Passes.{Pass}
use Rattle.passes.specs.Written.{lane}
use Rattle.blend.specs.declared.Tap.{Tap}
use Rattle.blend.specs.declared.Taps.{Taps}
use Rattle.blend.specs.declared.Weights.{Weights}

-- where the bytes of a place start, from the line's start on; outside, there
abbrev pub offset_of : Option ℕ → ℕ → ℕ
offset_of (Some i) stride = i * stride
offset_of None stride = 0

-- the weight of a place: none outside
abbrev pub weight_of : Option ℕ → ℕ → ℕ
weight_of (Some i) weight = weight
weight_of None weight = 0

-- the tap that reads a place in a weight
abbrev pub tap_of : Option ℕ → ℕ → ℕ → Tap
tap_of p stride weight = record { at = offset_of p stride; weight = weight_of p weight }

-- the taps that read four places in weights 1, 3, 3, 1
abbrev pub taps_of : Option ℕ → Option ℕ → Option ℕ → Option ℕ → ℕ → Taps
taps_of a b c d stride =
    record { a = tap_of a stride 1; b = tap_of b stride 3; c = tap_of c stride 3; d = tap_of d stride 1 }

-- their weights
abbrev pub weights_of : Taps → Weights
weights_of t = record { a = t.a.weight; b = t.b.weight; c = t.c.weight; d = t.d.weight }

-- byte k of the taps of the line at start, in their weights, over 8, rounded
abbrev pub tapped : List ℕ → ℕ → Taps → ℕ → ℕ
tapped src start t k =
    (t.a.weight * get_or src (start + t.a.at + k) 0 + t.b.weight * get_or src (start + t.b.at + k) 0 + t.c.weight * get_or src (start + t.c.at + k) 0 + t.d.weight * get_or src (start + t.d.at + k) 0 + 4) / 8

-- taps whose bytes lie within src and whose weights do not pass 8 together, and an element within dst
pub record Blendable (src dst : List ℕ) (t : Taps) (start stride o : ℕ) : Type 0 where
  pub a_ends : start + t.a.at + stride ≤ length src
  pub b_ends : start + t.b.at + stride ≤ length src
  pub c_ends : start + t.c.at + stride ≤ length src
  pub d_ends : start + t.d.at + stride ≤ length src
  pub weights : t.a.weight + t.b.weight + t.c.weight + t.d.weight ≤ 8
  pub o_ends : o + stride ≤ length dst

-- a line of len elements that the arithmetic has room for
pub record LineRoom (len stride : ℕ) : Type 0 where
  pub len_low : 0 < len
  pub len_high : len ≤ side_room
  pub fits : len * stride < 2 ^ 64

-- taps whose bytes lie within a line of len elements, in weights of at most 8 together
pub record Fit (t : Taps) (len stride : ℕ) : Type 0 where
  pub a_ends : t.a.at + stride ≤ len * stride
  pub b_ends : t.b.at + stride ≤ len * stride
  pub c_ends : t.c.at + stride ≤ len * stride
  pub d_ends : t.d.at + stride ≤ len * stride
  pub weights : t.a.weight + t.b.weight + t.c.weight + t.d.weight ≤ 8

-- taps of a line of len elements that make output y of a pass over it
pub record Output (f : Pass) (len stride y : ℕ) (t : Taps) : Type 0 where
  pub fit : Fit t len stride
  pub value : (src : List ℕ) (start k : ℕ) → tapped src start t k ≡ f len (lane src start stride k) y
