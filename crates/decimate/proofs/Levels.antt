-- A level as lines: the rows of its planes, and each plane as one line of rows; and the two passes over it, each into the front of a buffer.
use mathlib.Core.Path.{◌≡◌, refl, sym, ap, ◌∙◌}
use mathlib.Core.Bool.{Bool, true, false, cond}
use mathlib.Core.List.{List}
use Prim.Native.Nat.{ℕ, ◌+◌, ◌*◌, ◌≤◌, ◌<◌}
use native.Mathlib.Nat.{mul_assoc, mul-pos}
use native.Mathlib.Omega.{arith}
use borrow.Author.Tests.{eqb-true}
use lib.Dec.{eqb}
use lib.ListN.{length, take}
use lib.Seq.{length-take-le}
use Rattle.picture.specs.declared.EdgeMode.{EdgeMode}
use Rattle.picture.specs.declared.LevelSize.{LevelSize}
use Rattle.passes.specs.Passes.{Pass}
use Rattle.passes.specs.Forms.{form_bytes, form_pass}
use Rattle.passes.specs.Lines.{Lines}
use Rattle.passes.specs.Written.{passed}
use Rattle.passes.specs.declared.Form.{Form}
use Rattle.passes.proofs.Forms.{form_passed}
use Rattle.passes.proofs.Local.{Local, halve_local, double_local}
use Rattle.passes.proofs.OneWide.{one_wide}
use Rattle.turns.proofs.Lines.{as_one}
use Rattle.resize.specs.declared.Resize.{Resize}
use Rattle.resize.specs.declared.Resize.TheVariants.{Halve, Double}
use Rattle.decimate.specs.declared.Rows.{Rows}
use Rattle.resize.specs.Resize.{pass_of, Makes}
use Rattle.decimate.specs.Rows.{rows_of}
use Rattle.resize.specs.Room.{ResizeLines}
use Rattle.decimate.specs.Room.{RowsRoom, Levels}

-- either pass looks only at its line
pub local : (kind : Resize) (mode : EdgeMode) → Local (pass_of kind mode)
local Halve mode = halve_local mode
local Double mode = double_local mode

-- lines of some elements become lines of some
pub some_made : (kind : Resize) {len out : ℕ} → Makes kind len out → 0 < len → 0 < out
some_made Halve e l = omega arith
some_made Double e l = omega arith

-- what halving or doubling asks of lines is what any pass does
pub as_lines : {kind : Resize} {src dst : List ℕ} {lines len out stride : ℕ} → ResizeLines kind src dst lines len out stride → Lines src dst lines len out stride
as_lines r =
    record { some = r.some; len_low = r.len_low; len_high = r.len_high; stride_low = r.stride_low; src_size = r.src_length; dst_size = r.dst_length }

-- as many bytes are one line too, whose elements are those of all lines
module _ {kind : Resize} {src dst : List ℕ} {lines len out stride : ℕ} (r : ResizeLines kind src dst lines len out stride) where
  pub one_line : {a b : List ℕ} → length a ≡ lines * (len * stride) → length b ≡ lines * (out * stride) → ResizeLines kind a b 1 len out (lines * stride)
  one_line {a} {b} ea eb =
      let p : Lines a b 1 len out (lines * stride) = as_one (as_lines r) ea eb in
      record { some = p.some; stride_low = p.stride_low; len_low = p.len_low; len_high = p.len_high; makes = r.makes; src_length = p.src_size; dst_length = p.dst_size }

-- rows as lines: one to a row, or where each row is one element and stays so, one of one element
module _ {w v : ℕ} (wl : 0 < w) (vl : 0 < v) (lines lanes : ℕ) where
  rows_by : (P : Rows → Type 0) → (w ≡ 1 → v ≡ 1 → P (record { lines = 1; stride = lines * lanes })) → P (record { lines = lines; stride = lanes }) → P (rows_of w lines lanes v)
  rows_by P one all = by (eqb (w + v) 2) refl
    where
      by : (t : Bool) → eqb (w + v) 2 ≡ t → P (cond t (record { lines = 1; stride = lines * lanes }) (record { lines = lines; stride = lanes }))
      by true e = let s : w + v ≡ 2 = eqb-true (w + v) 2 e in one (omega arith) (omega arith)
      by false e = all

  -- they are all of either buffer, ..
  pub rows_fit : {kind : Resize} {src dst : List ℕ} → ResizeLines kind src dst lines w v lanes → ResizeLines kind src dst (rows_of w lines lanes v).lines w v (rows_of w lines lanes v).stride
  rows_fit {kind} {src} {dst} r =
      rows_by (λ rows. ResizeLines kind src dst rows.lines w v rows.stride)
      (λ _ _. one_line r r.src_length r.dst_length)
      r

  -- .. and what either way makes is the same
  pub rows_same : (f : Pass) → Local f → (src : List ℕ) → passed f src (rows_of w lines lanes v).lines w v (rows_of w lines lanes v).stride ≡ passed f src lines w v lanes
  rows_same f l src =
      rows_by (λ rows. passed f src rows.lines w v rows.stride ≡ passed f src lines w v lanes)
      (λ ew ev. rw (ew, ev) (sym (one_wide f l src lines lanes)))
      refl

-- a level of size s made one of size t; w, h, v, u, before and after are the numbers that the code works out
module _ {f : Form} {kind : Resize} {picture scratch : List ℕ} {s t : LevelSize} (r : Levels f kind picture scratch s t)
    {w h v u before after : ℕ} (ew : w ≡ s.w) (eh : h ≡ s.h) (ev : v ≡ t.w) (eu : u ≡ t.h) (eb : before ≡ form_bytes f s.w s.h) (ea : after ≡ form_bytes f t.w t.h) where
  w_low : 0 < w
  w_low = omega (arith, r.s_sized.w_low)

  v_low : 0 < v
  v_low = omega (arith, r.t_sized.w_low)

  before_fits : before ≤ length picture
  before_fits = omega (arith, r.s_fits)

  pub between_fits : f.planes * h * (v * f.lanes) ≤ length scratch
  between_fits = rw (mul_assoc f.planes h (v * f.lanes), eh, ev) r.between_fits

  -- the rows of all planes
  rows_lines : {q : Rows} → q ≡ rows_of w (f.planes * h) f.lanes v →
      ResizeLines kind (take before picture) (take (f.planes * h * (v * f.lanes)) scratch) q.lines w v q.stride
  rows_lines eq =
      rw eq
      (rows_fit w_low v_low (f.planes * h) f.lanes
      record {
        some = mul-pos r.formed.planes_low (omega (arith, r.s_sized.h_low));
        stride_low = r.formed.lanes_low;
        len_low = w_low;
        len_high = omega (arith, r.s_sized.w_high);
        makes = rw (ew, ev) r.wide;
        src_length = length-take-le _ _ before_fits ∙ eb ∙ rw (ew, eh) (sym (mul_assoc f.planes s.h (s.w * f.lanes)));
        dst_length = length-take-le _ _ between_fits;
      })

  pub rows_room : {q : Rows} → q ≡ rows_of w (f.planes * h) f.lanes v →
      RowsRoom kind picture scratch before (f.planes * h * (v * f.lanes)) q.lines w v q.stride
  rows_room eq =
      record {
        lined = rows_lines eq;
        picture_before = before_fits;
        picture_between = rw (mul_assoc f.planes h (v * f.lanes), eh, ev) r.between_turned;
        scratch_before = omega (arith, r.s_turned);
        scratch_between = between_fits;
      }

  -- the columns of what the rows made
  pub level_made : (mode : EdgeMode) {q : Rows} {mid last : List ℕ} → q ≡ rows_of w (f.planes * h) f.lanes v →
      mid ≡ passed (pass_of kind mode) (take before picture) q.lines w v q.stride →
      last ≡ passed (pass_of kind mode) mid f.planes h u (v * f.lanes) →
      last ≡ form_pass f (pass_of kind mode) s t (take (form_bytes f s.w s.h) picture)
  level_made mode eq e made =
      made
      ∙ ap (λ (l : List ℕ). passed (pass_of kind mode) l f.planes h u (v * f.lanes))
      (e ∙ ap (λ (p : Rows). passed (pass_of kind mode) (take before picture) p.lines w v p.stride) eq ∙ rows_same w_low v_low (f.planes * h) f.lanes (pass_of kind mode) (local kind mode) _)
      ∙ rw (eb, ew, eh, ev, eu) (form_passed f (pass_of kind mode) (local kind mode) s t r.s_sized (take (form_bytes f s.w s.h) picture))
