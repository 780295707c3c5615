-- Laws of the runs of a line: one that ends with its element, one whose taps all read inside, and what a run makes of the line.
use mathlib.Core.Path.{◌≡◌, ap, ◌∙◌}
use mathlib.Core.Bool.{Bool, true, false, true≢false, false≢true}
use mathlib.Core.List.{List}
use Prim.Native.Nat.{ℕ, ◌+◌, ◌-◌, ◌*◌, ◌/◌, ◌%◌, ◌≤◌, ◌<◌, min}
use native.Mathlib.Nat.{add-mul, add_assoc, mod-lt, mul-le-mul_right, div-add-mod', div-lt_iff_lt-mul, mul-add-div_right, mul-add-mod_self_right}
use native.Mathlib.Omega.{arith}
use Rattle.picture.specs.Spans.{Span, Run}
use Rattle.picture.proofs.Spans.{within, span_at, span_join}
use Rattle.passes.specs.Passes.{Pass}
use Rattle.passes.specs.Written.{lane, line_byte}
use Rattle.grid_sums.specs.declared.LineRun.{LineRun}
use Rattle.whole_lines.specs.Lines.{sum_lanes, RunAt}

-- n lanes from byte p of a line on
abbrev pub run_from : ℕ → ℕ → ℕ → Bool → LineRun
run_from stride p n inner = record { x = p / stride; from = p % stride; n = n; inner = inner }

-- what stands at byte p
module _ (len stride taps p : ℕ) (z : 0 < stride) (l : p < len * stride) where
  pub element : p / stride < len
  element = (div-lt_iff_lt-mul z).1 l

  -- its element ends with the line at the latest
  pub element_ends : (0 < stride - p % stride) × (p + (stride - p % stride) ≤ len * stride)
  element_ends = omega (arith, mod-lt p z, div-add-mod' p stride, within 0 stride (p / stride) len element)

  pub edge_run : {n : ℕ} → n ≡ min sum_lanes (stride - p % stride) → RunAt len stride taps p (run_from stride p n false)
  edge_run e =
      record {
        at = div-add-mod' p stride;
        some = omega (arith, element_ends);
        few = omega arith;
        x_high = element;
        ends = omega (arith, element_ends);
        tap = λ j h. record { edge = λ _. omega (arith, mod-lt p z); inside = λ f. absurd (false≢true f) };
      }

  -- each tap of it reads inside, where that many elements more do and as many before
  module _ (after : ℕ) (a : after ≡ taps - 1 - taps / 2) (h : p / stride + after < len) where
    pub inner_ends : (p < (len - after) * stride) × ((len - after) * stride ≤ len * stride)
    inner_ends =
        (omega (arith, mod-lt p z, div-add-mod' p stride, within 0 stride (p / stride) (len - after) (omega arith)), mul-le-mul_right stride (omega arith))

    pub inner_run : {n : ℕ} → taps / 2 ≤ p / stride → n ≡ min sum_lanes ((len - after) * stride - p) → RunAt len stride taps p (run_from stride p n true)
    inner_run {n} d e =
        record {
          at = div-add-mod' p stride;
          some = omega (arith, inner_ends);
          few = omega arith;
          x_high = element;
          ends = omega (arith, inner_ends);
          tap = λ j b. record { edge = λ f. absurd (true≢false f); inside = λ _. (omega arith, reads j b) };
        }
      where
        reads : (j : ℕ) → j < taps → (p / stride + j - taps / 2) * stride + p % stride + n ≤ len * stride
        reads j b =
            let i = p / stride + j - taps / 2 in
            let room : i + (len - after) ≤ p / stride + len = omega arith in
            omega (arith, inner_ends, div-add-mod' p stride, add-mul i (len - after) stride, add-mul (p / stride) len stride, mul-le-mul_right stride room)

-- a run that was made is what the pass makes of the line there
module _ (f : Pass) (src : List ℕ) (start len stride x from : ℕ) (z : 0 < stride) where
  abbrev pub run_byte : ℕ → ℕ
  run_byte i = f len (lane src start stride ((from + i) % stride)) (x + (from + i) / stride)

  run_byte_lem : {p : ℕ} → x * stride + from ≡ p → (i : ℕ) → run_byte i ≡ line_byte f src start len stride (p + i)
  run_byte_lem e i = rw (← e, add_assoc, mul-add-div_right z x (from + i), mul-add-mod_self_right x stride (from + i))

  pub run_made : {d e : List ℕ} {o p n : ℕ} → x * stride + from ≡ p → Run 0 d e (o + p) n run_byte → Span 0 d e o p (p + n) (line_byte f src start len stride)
  run_made {o = o} {p = p} q r =
      record {
        size = r.size;
        inside = λ k l h.
            let at : p + (k - p) ≡ k = omega arith in
            span_at r (k - p) (omega arith) (omega arith) (omega arith) ∙ run_byte_lem q (k - p) ∙ ap (line_byte f src start len stride) at;
        below = λ j l. r.below j (omega arith);
        above = λ j l. r.above j (omega arith);
      }

  -- one run more
  pub run_more : {d e e' : List ℕ} {o p n : ℕ} → x * stride + from ≡ p → Run 0 d e o p (line_byte f src start len stride) → Run 0 e e' (o + p) n run_byte →
      Run 0 d e' o (p + n) (line_byte f src start len stride)
  run_more q s r = span_join (omega arith) (omega arith) s (run_made q r)
