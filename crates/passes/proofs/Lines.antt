-- The rows and the columns of a level, in any form, as lines: what a pass that keeps the size asks of them, and what it makes, whatever the convolution.
use mathlib.Core.Path.{◌≡◌, ◌∙◌, sym}
use mathlib.Core.List.{List}
use Prim.Native.Nat.{ℕ, ◌*◌, ◌≤◌}
use native.Mathlib.Nat.{mul_assoc, mul-pos, mul-le-mul}
use native.Mathlib.Omega.{arith}
use lib.ListN.{length}
use Rattle.picture.specs.Sizes.{Sized}
use Rattle.picture.specs.declared.LevelSize.{LevelSize}
use Rattle.picture.proofs.Sizes.{room_is}
use Rattle.passes.specs.declared.Form.{Form}
use Rattle.passes.specs.Passes.{Pass}
use Rattle.passes.specs.Forms.{form_bytes, form_pass, Formed}
use Rattle.passes.specs.Lines.{Lines}
use Rattle.passes.specs.Written.{passed}
use Rattle.passes.proofs.Forms.{form_passed}
use Rattle.passes.proofs.Local.{Local}

module _ (f : Form) (g : Formed f) (s : LevelSize) (z : Sized s) {w h : ℕ} (ew : w ≡ s.w) (eh : h ≡ s.h) where
  -- the numbers of a pass are ones that the arithmetic has room for
  pub lines_fit : (f.planes * h ≤ 262144) × (w * f.lanes ≤ 262144)
  lines_fit = (
    mul-le-mul {n₁ = f.planes} {m₁ = h} {n₂ = 4} {m₂ = 65536} g.planes_high (omega (arith, eh, z.h_high, room_is)),
    mul-le-mul {n₁ = w} {m₁ = f.lanes} {n₂ = 65536} {m₂ = 4} (omega (arith, ew, z.w_high, room_is)) g.lanes_high,
  )

  -- each row is a line, ..
  pub rows_are : {src dst : List ℕ} → length src ≡ form_bytes f s.w s.h → length dst ≡ form_bytes f s.w s.h → Lines src dst (f.planes * h) w w f.lanes
  rows_are a b =
      let size : (n : ℕ) → n ≡ form_bytes f s.w s.h → n ≡ f.planes * h * (w * f.lanes) = λ n e. rw (ew, eh) (e ∙ sym (mul_assoc f.planes s.h (s.w * f.lanes))) in
      record {
        some = mul-pos g.planes_low (omega (arith, eh, z.h_low));
        len_low = omega (arith, ew, z.w_low);
        len_high = omega (arith, ew, z.w_high);
        stride_low = g.lanes_low;
        src_size = size _ a;
        dst_size = size _ b;
      }

  -- .. and each plane is one whose elements are its rows
  pub cols_are : {src dst : List ℕ} → length src ≡ form_bytes f s.w s.h → length dst ≡ form_bytes f s.w s.h → Lines src dst f.planes h h (w * f.lanes)
  cols_are a b =
      record {
        some = g.planes_low;
        len_low = omega (arith, eh, z.h_low);
        len_high = omega (arith, eh, z.h_high);
        stride_low = mul-pos (omega (arith, ew, z.w_low)) g.lanes_low;
        src_size = rw (ew, eh) a;
        dst_size = rw (ew, eh) b;
      }

  -- rows, and then columns of what they became, are the pass of the level
  pub level_is : (C : Pass) → Local C → (src : List ℕ) {mid out : List ℕ} →
      mid ≡ passed C src (f.planes * h) w w f.lanes → out ≡ passed C mid f.planes h h (w * f.lanes) → out ≡ form_pass f C s s src
  level_is C l src a b = b ∙ rw (a, ew, eh) (form_passed f C l s s z src)
