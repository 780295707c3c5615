-- Laws of taps: those of four places lie within the line and are what stands at the places, blended.
use Rattle.std.proofs.Common.{Option, Some, None}
use mathlib.Core.Path.{◌≡◌, refl, sym, ◌∙◌}
use mathlib.Core.List.{List}
use Prim.Native.Nat.{ℕ, ◌+◌, ◌*◌, ◌≤◌, ◌<◌, ◌^◌}
use native.Mathlib.Nat.{mul-zero, zero-mul}
use native.Mathlib.Omega.{arith}
use lib.ListN.{length, get_or}
use Rattle.picture.proofs.Spans.{within}
use Rattle.edges.specs.Edges.{value_at, Below}
use Rattle.passes.specs.Written.{lane}
use Rattle.blend.specs.declared.Taps.{Taps}
use Rattle.blend.specs.Blend.{mix_at}
use Rattle.blend.specs.Tapped.{offset_of, weight_of, taps_of, tapped, LineRoom, Fit, Blendable}
use Rattle.blend.specs.Parts.{Room}

weight_most : (p : Option ℕ) (w : ℕ) → weight_of p w ≤ w
weight_most (Some i) w = omega arith
weight_most None w = omega arith

-- the bytes of a place of s elements end within them
offset_ends : (p : Option ℕ) (s stride : ℕ) → 0 < s → Below p s → offset_of p stride + stride ≤ s * stride
offset_ends (Some i) s stride z l = omega (arith, within 0 stride i s l)
offset_ends None s stride z l = omega (arith, within 0 stride 0 s z, zero-mul stride)

-- where the bytes of a place start fits, in a line that does
pub offset_fits : (p : Option ℕ) {len stride : ℕ} → LineRoom len stride → Below p len → offset_of p stride < 2 ^ 64
offset_fits p {len} {stride} r l = omega (arith, offset_ends p len stride r.len_low l, r.fits)

-- a byte of a place in its weight is what stands there, in the weight asked for
tap_value : (p : Option ℕ) (src : List ℕ) (start stride w k : ℕ) → weight_of p w * get_or src (start + offset_of p stride + k) 0 ≡ w * value_at p (lane src start stride k)
tap_value (Some i) src start stride w k = refl
tap_value None src start stride w k = zero-mul (get_or src (start + 0 + k) 0) ∙ sym (mul-zero w)

-- the taps of four places
module _ (a b c d : Option ℕ) {t : Taps} (stride : ℕ) (e : t ≡ taps_of a b c d stride) where
  pub taps_fit : (len : ℕ) → 0 < len → Below a len → Below b len → Below c len → Below d len → Fit t len stride
  taps_fit len z la lb lc ld =
      rw e
      record {
        a_ends = offset_ends a len stride z la;
        b_ends = offset_ends b len stride z lb;
        c_ends = offset_ends c len stride z lc;
        d_ends = offset_ends d len stride z ld;
        weights = omega (arith, weight_most a 1, weight_most b 3, weight_most c 3, weight_most d 1);
      }

  pub taps_mix : (src : List ℕ) (start k : ℕ) → tapped src start t k ≡ mix_at a b c d (lane src start stride k)
  taps_mix src start k =
      rw e
      (omega (
        arith,
        tap_value a src start stride 1 k,
        tap_value b src start stride 3 k,
        tap_value c src start stride 3 k,
        tap_value d src start stride 1 k,
      ))

-- each element of a line within src ends within it
pub element_ends : {src dst : List ℕ} {start stride len o n : ℕ} → Room src dst start stride len o n → (i : ℕ) → i < len → start + i * stride + stride ≤ length src
element_ends {start = start} {stride} {len} r i l = omega (arith, within start stride i len l, r.src_ends)

-- taps of a line within src have room for a blend
pub taps_room : {t : Taps} {len stride : ℕ} {src dst : List ℕ} {start p : ℕ} → Fit t len stride → start + len * stride ≤ length src → p + stride ≤ length dst → Blendable src dst t start stride p
taps_room f r s =
    record {
      a_ends = omega (arith, f.a_ends);
      b_ends = omega (arith, f.b_ends);
      c_ends = omega (arith, f.c_ends);
      d_ends = omega (arith, f.d_ends);
      weights = f.weights;
      o_ends = s;
    }
