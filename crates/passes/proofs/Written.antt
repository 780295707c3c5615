-- Laws of what a pass over lines writes: one element more of a line, one line more, and all of them.
use mathlib.Core.Path.{◌≡◌, refl, ◌∙◌}
use mathlib.Core.List.{List}
use Prim.Native.Nat.{ℕ, ◌+◌, ◌*◌, ◌≤◌, ◌<◌}
use native.Mathlib.Omega.{arith}
use native.Mathlib.Nat.{add_assoc}
use lib.ListN.{length, get_or}
use Rattle.picture.specs.Spans.{Span, Run}
use Rattle.picture.proofs.Build.{build_ext, get_or-build}
use Rattle.picture.proofs.Planes.{quotient, remainder}
use Rattle.picture.proofs.Spans.{scale, within, span_none, span_join, span_at, span_element}
use Rattle.passes.specs.Passes.{Pass}
use Rattle.passes.specs.Written.{lane, line_byte, lines_byte, passed}

-- element x of a line is written, lane by lane
pub element_made : (f : Pass) (src : List ℕ) (start len stride x : ℕ) {d e : List ℕ} {o : ℕ} → Run 0 d e (o + x * stride) stride (λ k. f len (lane src start stride k) x) →
    Span 0 d e o (x * stride) ((x + 1) * stride) (line_byte f src start len stride)
element_made f src start len stride x = span_element (λ y k. f len (lane src start stride k) y) x refl

-- of lines one after the other, the first y are what f makes of those of src: `out` elements of each
pub record Lined (f : Pass) (src : List ℕ) (len out stride : ℕ) (old new : List ℕ) (y : ℕ) : Type 0 where
  pub made : Span 0 old new 0 0 (y * (out * stride)) (lines_byte f src len out stride)

module _ {f : Pass} {src : List ℕ} {len out stride : ℕ} {d : List ℕ} where
  pub lined_none : Lined f src len out stride d d 0
  lined_none = record { made = span_none (omega arith) }

  module _ {e : List ℕ} {y : ℕ} (p : Lined f src len out stride d e y) where
    -- the next line ends where all of them do, at the latest
    pub line_ends : (lines : ℕ) → length d ≡ lines * (out * stride) → y < lines → y * (out * stride) + out * stride ≤ length e
    line_ends lines all l = omega (arith, within 0 (out * stride) y lines l, p.made.size)

    -- one line more
    pub lined_more : {e' : List ℕ} → Run 0 e e' (y * (out * stride)) (out * stride) (line_byte f src (y * (len * stride)) len stride) → Lined f src len out stride d e' (y + 1)
    lined_more r =
        record {
          made = span_join (omega arith) (omega (arith, scale 0 (out * stride) y (y + 1) (omega arith))) p.made (span_element (λ z k. line_byte f src (z * (len * stride)) len stride k) y (omega arith) r);
        }

    -- all lines
    pub lined_all : (lines : ℕ) → length d ≡ lines * (out * stride) → y ≡ lines → e ≡ passed f src lines len out stride
    unfolding passed
    lined_all lines all l = let s = rw l at p.made in build_ext _ _ e (s.size ∙ all) (λ i h. span_at s i (omega arith) (omega arith) h)

-- the byte that a pass makes of lane k at element x of line y
pub passed_at : (f : Pass) (src : List ℕ) (lines len out stride y x k : ℕ) → y < lines → x < out → k < stride →
    get_or (passed f src lines len out stride) (y * (out * stride) + x * stride + k) 0 ≡ f len (lane src (y * (len * stride)) stride k) x
unfolding passed
passed_at f src lines len out stride y x k ly lx lk =
    let i : x * stride + k < out * stride = omega (arith, within 0 stride x out lx) in
    let at : y * (out * stride) + (x * stride + k) < lines * (out * stride) = omega (arith, within 0 (out * stride) y lines ly) in
    rw (add_assoc, get_or-build _ _ _ at, quotient (out * stride) y (x * stride + k) i, remainder (out * stride) y (x * stride + k) i, quotient stride x k lk, remainder stride x k lk)
