-- What a channel is multiplied by: for each alpha from 1 to 255, a little more than 255 over it. Computed for all of them.
use mathlib.Core.Path.{◌≡◌}
use mathlib.Core.Bool.{Bool, true, false, ◌&&◌}
use mathlib.Core.Logic.{⊎_elim}
use Prim.Native.Nat.{ℕ, zero, suc, ◌*◌, ◌≤◌, ◌<◌}
use native.Mathlib.Omega.{arith}
use lib.Dec.{T, leb, leb→le}
use lib.IntN.{pos, negsuc}
use lib.Ieee.{Float, fin, binary32, add, div, of_int}
use lib.Ieee.Fits.{and_l, and_r}
use lib.Ieee.Positive.{num, den}
use Rattle.picture.proofs.Spans.{le_or_lt}
use Rattle.binary32.proofs.Values.{plain}
use Rattle.composite.proofs.Between.{Between}

-- 255 and 2 ^ -10, and what is added to an alpha
abbrev pub top : Float
top = fin false 261121 (negsuc 9)

abbrev pub tiny : Float
tiny = fin false 9007199 (negsuc 52)

unfoldable pub scale : ℕ → Float
scale a = div binary32 top (add binary32 (of_int binary32 (pos a)) tiny)

-- x is at least 255 and 2 ^ -11 over a, and at most 255 and 3 · 2 ^ -11 over a
abbrev close : ℕ → Float → Bool
close a x = plain x && (leb (522241 * den x) (num x * (2048 * a)) && leb (num x * (2048 * a)) (522243 * den x))

-- the test passes at every number below n
every : ℕ → (ℕ → Bool) → Bool
every zero f = true
every (suc n) f = f n && every n f

each : (n : ℕ) (f : ℕ → Bool) → T (every n f) → (k : ℕ) → k < n → T (f k)
unfolding every
each zero f t k l = absurd (omega arith)
each (suc n) f t k l =
    ⊎_elim (λ (m : n ≤ k). let e : k ≡ n = omega arith in rw e (and_l (f n) (every n f) t)) (λ (m : k < n). each n f (and_r (f n) (every n f) t) k m) (le_or_lt n k)

all_close : T (every 255 (λ k. close (suc k) (scale (suc k))))
unfolding every scale div add of_int
all_close = tt

pub scale_in : (a : ℕ) → 0 < a → a ≤ 255 → Between (2048 * a) (scale a) 522241 522243
scale_in zero l h = absurd (omega arith)
scale_in (suc k) l h =
    let x = scale (suc k) in
    let t = each 255 (λ k. close (suc k) (scale (suc k))) all_close k (omega arith) in
    let both = and_r (plain x) _ t in
    record {
      flat = and_l (plain x) _ t;
      above = record { le = leb→le _ _ (and_l (leb (522241 * den x) (num x * (2048 * suc k))) _ both) };
      below = record { le = leb→le _ _ (and_r (leb (522241 * den x) (num x * (2048 * suc k))) _ both) };
    }
