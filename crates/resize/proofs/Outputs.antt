-- Outputs of a line that are made one part after another, and the room for them.
use mathlib.Core.Path.{◌≡◌, refl, ◌∙◌}
use mathlib.Core.List.{List}
use mathlib.Core.Logic.{◌⊎◌, inl, inr, ⊎_elim}
use Prim.Native.Nat.{ℕ, ◌+◌, ◌-◌, ◌*◌, ◌/◌, ◌%◌, ◌≤◌, ◌<◌}
use native.Mathlib.Nat.{zero-mul, one-mul, add-mul, mul-pos, mod-lt, div-add-mod', div-lt_iff_lt-mul}
use native.Mathlib.Omega.{arith}
use lib.ListN.{length, get_or}
use Rattle.picture.specs.Spans.{Span, Run}
use Rattle.picture.proofs.Build.{build_ext}
use Rattle.picture.proofs.Planes.{quotient, remainder}
use Rattle.picture.proofs.Spans.{le_or_lt, scale, within, span_at}
use Rattle.passes.specs.Passes.{Pass}
use Rattle.passes.specs.Written.{line_byte, passed}
use Rattle.blend.specs.declared.Taps.{Taps}
use Rattle.blend.specs.Tapped.{tapped, Output}
use Rattle.blend.specs.Parts.{Room}
use Rattle.resize.specs.declared.Resize.{Resize}
use Rattle.resize.specs.Resize.{inner_to}
use Rattle.resize.specs.Room.{Parts}
use Rattle.resize.proofs.Sizes.{Outs}

-- fewer outputs have room, in a buffer of the same length
pub room_less : {src dst dst' : List ℕ} {start stride len o n : ℕ} (m : ℕ) → Room src dst start stride len o n → length dst' ≡ length dst → m ≤ n → Room src dst' start stride len o m
room_less {stride = stride} {o = o} {n} m r e l =
    record { len_low = r.len_low; len_high = r.len_high; src_ends = r.src_ends; dst_ends = omega (arith, scale o stride m n l, r.dst_ends) }

-- line y of those that are all of a list lies within it
pub line_lies : (l : List ℕ) (lines n y : ℕ) → length l ≡ lines * n → y < lines → y * n + n ≤ length l
line_lies l lines n y e h = omega (arith, within 0 n y lines h)

-- no line yet, and one line more
pub parts_none : {d : List ℕ} {n a b : ℕ} {g : ℕ → ℕ → ℕ} → Parts d d 0 n a b g
parts_none = record { size = refl; made = λ y r l. omega arith; before = λ y r l. refl }

pub parts_more : {d e e' : List ℕ} {n a b : ℕ} {g : ℕ → ℕ → ℕ} (y : ℕ) → a ≤ n → b ≤ n → Parts d e y n a b g → Span 0 e e' (y * n) a b (g y) → Parts d e' (y + 1) n a b g
parts_more {n = n} {a} {b} {g} y la lb p s =
    record {
      size = s.size ∙ p.size;
      made = λ z r l m u.
          ⊎_elim
          (λ (h : y ≤ z). let e : z ≡ y = omega arith in rw e (s.inside r m u))
          (λ (h : z < y). s.below (z * n + r) (omega (arith, within 0 n z y h)) ∙ p.made z r h m u)
          (le_or_lt y z);
      before = λ z r u.
          ⊎_elim
          (λ (h : y + 1 ≤ z). s.above (z * n + r) (omega (arith, within 0 n y z (omega arith))) ∙ p.before z r u)
          (λ (h : z < y + 1). s.below (z * n + r) (omega (arith, scale 0 n z y (omega arith))) ∙ p.before z r u)
          (le_or_lt (y + 1) z);
    }

-- bytes one after the other, counted from a bytes before them
pub run_from_lem : {d e : List ℕ} {p o n : ℕ} {f : ℕ → ℕ} (a : ℕ) → p ≡ o + a → Run 0 d e p n f → Span 0 d e o a (a + n) (λ r. f (r - a))
run_from_lem {e = e} {o = o} a q r =
    record {
      size = r.size;
      inside = λ k l m. let at : o + k ≡ o + a + (k - a) = omega arith in rw at (span_at r (k - a) (omega arith) (omega arith) (omega arith));
      below = λ j l. r.below j (omega arith);
      above = λ j l. r.above j (omega arith);
    }

-- taps that make output x make byte k of it
output_byte : {f : Pass} {len stride x : ℕ} {t : Taps} → Output f len stride x t → (src : List ℕ) (start k : ℕ) → k < stride → tapped src start t k ≡ line_byte f src start len stride (x * stride + k)
output_byte {stride = stride} {x} o src start k l = rw (quotient stride x k l, remainder stride x k l) (o.value src start k)

-- the last output of a line ends where the line does
pub last_ends : (out stride : ℕ) → 0 < out → (out - 1) * stride + stride ≡ out * stride
last_ends out stride z =
    let e : out - 1 + 1 ≡ out = omega arith in
    omega (arith, rw e at (add-mul (out - 1) 1 stride), one-mul stride)

-- lines are made: the first output of each, those inside, and the last of each, which may be one of them
module _ {f : Pass} {kind : Resize} {len out stride : ℕ} {first last : Taps} (b : Outs kind len out) (z : 0 < stride) (o : Output f len stride 0 first) (u : Output f len stride (out - 1) last)
    (src : List ℕ) (lines : ℕ) {d e e' e'' : List ℕ} (all : length d ≡ lines * (out * stride))
    (one : Parts d e lines (out * stride) 0 (0 + stride) (λ y r. tapped src (y * (len * stride)) first (r - 0)))
    (inner : Parts e e' lines (out * stride) stride (inner_to kind len * stride) (λ y r. line_byte f src (y * (len * stride)) len stride r))
    (end : Parts e' e'' lines (out * stride) ((out - 1) * stride) ((out - 1) * stride + stride) (λ y r. tapped src (y * (len * stride)) last (r - (out - 1) * stride))) where
  ends : (out - 1) * stride + stride ≡ out * stride
  ends = last_ends out stride b.some

  byte : (y r : ℕ) → y < lines → r < out * stride → get_or e'' (y * (out * stride) + r) 0 ≡ line_byte f src (y * (len * stride)) len stride r
  byte y r l m =
      ⊎_elim
      (λ (h : (out - 1) * stride ≤ r).
      let at : (out - 1) * stride + (r - (out - 1) * stride) ≡ r = omega arith in
      end.made y r l h (omega (arith, ends)) ∙ rw at at (output_byte u src (y * (len * stride)) (r - (out - 1) * stride) (omega (arith, ends))))
      (λ (h : r < (out - 1) * stride). end.before y r h ∙ early h (le_or_lt stride r))
      (le_or_lt ((out - 1) * stride) r)
    where
      early : r < (out - 1) * stride → (stride ≤ r) ⊎ (r < stride) → get_or e' (y * (out * stride) + r) 0 ≡ line_byte f src (y * (len * stride)) len stride r
      early h (inl k) = inner.made y r l k (omega (arith, scale 0 stride (out - 1) (inner_to kind len) (omega (arith, b.inner_reaches))))
      early h (inr k) =
          let at : 0 * stride + (r - 0) ≡ r = omega (arith, zero-mul stride) in
          inner.before y r k ∙ one.made y r l (omega arith) (omega arith) ∙ rw at at (output_byte o src (y * (len * stride)) (r - 0) (omega arith))

  pub lines_made : e'' ≡ passed f src lines len out stride
  unfolding passed
  lines_made =
      build_ext _ _ e'' (end.size ∙ inner.size ∙ one.size ∙ all)
      (λ i h.
      let n = out * stride in
      let some : 0 < n = mul-pos b.some z in
      let at : i / n * n + i % n ≡ i = div-add-mod' i n in
      rw at at (byte (i / n) (i % n) ((div-lt_iff_lt-mul some).1 h) (mod-lt i some)))
