-- Laws of groups of lanes: what a group asks and makes, of all lanes; and of weights that are lent as so many.
use mathlib.Core.Path.{◌≡◌, sym, ap, subst, ◌∙◌}
use mathlib.Core.List.{List}
use Prim.Native.Nat.{ℕ, ◌+◌, ◌-◌, ◌≤◌}
use native.Mathlib.Omega.{arith}
use lib.Dec.{T}
use lib.Ieee.{Float}
use lib.ListN.{length, take}
use lib.Seq.{take_all}
use Rattle.picture.specs.Spans.{Span, Run}
use Rattle.picture.proofs.Spans.{span_at}
use Rattle.binary32.specs.Ranges.{nonneg}
use Rattle.binary32.specs.Round.{to_byte}
use Rattle.lanes.specs.Lanes.{lane_byte, Weighable}
use Rattle.lanes.proofs.Taps.{lane_on}

module _ (line weights : List Float) (a step d size : ℕ) where
  -- lanes d up to d + size of n lanes can be summed and rounded as those are
  pub group : {n : ℕ} → Weighable line weights a step n → d + size ≤ n → Weighable line weights (a + d) step size
  group w h =
      record {
        reaches = record { some = w.reaches.some; last = omega (arith, w.reaches.last) };
        nonnegative = λ i l. subst (λ (s : Float). T (nonneg s)) (sym (lane_on line a step weights i d (length weights))) (w.nonnegative (d + i) (omega arith));
      }

  -- and they are a part of what all lanes make
  pub group_made : {old new : List ℕ} {o : ℕ} → Run 0 old new (o + d) size (lane_byte line (a + d) step weights) → Span 0 old new o d (d + size) (lane_byte line a step weights)
  group_made {o = o} r =
      record {
        size = r.size;
        inside = λ k l m.
            let here : d + (k - d) ≡ k = omega arith in
            span_at r (k - d) (omega arith) (omega arith) (omega arith)
            ∙ ap to_byte (lane_on line a step weights (k - d) d (length weights))
            ∙ ap (lane_byte line a step weights) here;
        below = λ j l. r.below j (omega arith);
        above = λ j l. r.above j (omega arith);
      }

-- as many weights as there are
pub as_many : (weights : List Float) {k : ℕ} → length weights ≡ k → take k weights ≡ weights
as_many weights {k} e = take_all k weights (omega (arith, e))

pub counted : (weights : List Float) {k : ℕ} → length weights ≡ k → k ≡ length (take k weights)
counted weights e = rw (as_many weights e) (sym e)
