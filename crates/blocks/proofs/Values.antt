-- Laws of a block's values: at an element inside, outside, and in a run of elements inside.
use mathlib.Core.Path.{◌≡◌, refl, sym, ap, ◌∙◌}
use mathlib.Core.List.{List}
use Prim.Native.Nat.{ℕ, ◌+◌, ◌-◌, ◌*◌, ◌/◌, ◌%◌, ◌≤◌, ◌<◌, min}
use native.Mathlib.Nat.{add-mul, mul-le-mul_right, div-add-mod', div-lt_iff_lt-mul, mul-add-div_right, mul-add-mod_self_right}
use native.Mathlib.Omega.{arith}
use lib.Ieee.{of_int, round}
use lib.ListN.{get_or}
use Rattle.std.proofs.Common.{Option}
use Rattle.picture.specs.declared.EdgeMode.{EdgeMode}
use Rattle.picture.specs.Planes.{Line}
use Rattle.edges.specs.Edges.{place, value_at, sample}
use Rattle.edges.proofs.Samples.{sample_near}
use Rattle.passes.specs.Written.{lane}
use Rattle.binary32.specs.Ranges.{zero32}
use Rattle.lanes.specs.Lanes.{widened}
use Rattle.blocks.specs.Blocks.{block_value}

-- a sample whose place is known
pub placed : (mode : EdgeMode) (s c d : ℕ) (line : Line) {p : Option ℕ} → place mode s c d ≡ p → value_at p line ≡ sample mode s line c d
unfolding sample
placed mode s c d line e = ap (λ (p : Option ℕ). value_at p line) (sym e)

-- no sample is a zero
pub nothing : widened 0 ≡ zero32
unfolding of_int round
nothing = refl

-- which of the elements that a block of `count` reads lie inside: those from `low` up to `high`, with their values in one run
module _ (x d len count low high : ℕ) (isLow : low ≡ d - x) (isHigh : high ≡ min count (len + d - x)) (xl : x < len) (dc : d < count) where
  pub run_ends : (low ≤ high) × (high ≤ count) × (d ≤ x + low) × (x + high ≤ len + d)
  run_ends = omega arith

  pub run_fits : (stride : ℕ) →
      (low * stride + (high - low) * stride ≡ high * stride) × (high * stride ≤ count * stride) × ((x + low - d) * stride + (high - low) * stride ≤ len * stride)
  run_fits stride =
      let r = run_ends in
      let n = high - low in
      let e : low + n ≡ high = omega arith in
      (sym (add-mul low n stride) ∙ ap (λ (k : ℕ). k * stride) e, mul-le-mul_right stride r.1, omega (arith, add-mul (x + low - d) n stride, mul-le-mul_right {m = x + low - d + n} {n = len} stride (omega arith)))

-- value k of the run is byte k of what starts at element x + low - d
pub run_value : (mode : EdgeMode) (src : List ℕ) (start len stride x d low high k : ℕ) → 0 < stride → d ≤ x + low → x + high ≤ len + d → k < (high - low) * stride →
    widened (get_or src (start + (x + low - d) * stride + k) 0) ≡ block_value mode src start len stride 0 stride x d (low * stride + k)
run_value mode src start len stride x d low high k z a b h =
    let e = k / stride in
    let i = x + low - d in
    let short : e < high - low = (div-lt_iff_lt-mul z).1 h in
    let at : start + i * stride + k ≡ start + (i + e) * stride + (0 + k % stride) = omega (arith, div-add-mod' k stride, add-mul i e stride) in
    rw (at, mul-add-div_right z low k, mul-add-mod_self_right low stride k)
    (ap widened (sym (sample_near mode len (lane src start stride (0 + k % stride)) (x + (low + e)) d (i + e) (omega arith) (omega arith))))
