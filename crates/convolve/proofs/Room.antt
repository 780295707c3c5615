-- Laws of the buffer: blocks for which there is room, and the buffers of long and of short lines.
use mathlib.Core.Path.{◌≡◌}
use mathlib.Core.List.{List}
use mathlib.Core.Logic.{⊎_elim}
use Prim.Native.Nat.{ℕ, ◌+◌, ◌-◌, ◌*◌, ◌/◌, ◌≤◌, ◌<◌, min}
use native.Mathlib.Nat.{add-mul, mul-le-mul_right, le-div_iff_mul-le, div-mul-le_self}
use native.Mathlib.Omega.{arith}
use lib.Ieee.{Float}
use lib.ListN.{length, replicate, length-replicate}
use Rattle.picture.specs.Refusal.{max_taps}
use Rattle.picture.proofs.Spans.{le_or_lt}
use Rattle.block_sums.specs.Room.{whole, lanes, BlockRoom}
use Rattle.convolve.specs.Lines.{short}

-- a buffer of the same size, and no more elements
pub room_still : {line line' : List Float} {stride most m : ℕ} → BlockRoom line stride most → length line' ≡ length line → 0 < m → m ≤ most → BlockRoom line' stride m
room_still {stride = stride} {most = most} {m = m} b l s h =
    let more : m + (max_taps - 1) ≤ most + (max_taps - 1) = omega arith in
    record { some = s; values = omega (arith, b.values, mul-le-mul_right (min stride lanes) more) }

-- the small buffer has room for a short line and what the taps add at its ends
pub short_room : {v l : ℕ} (stride : ℕ) → l ≡ short → v ≤ short / stride → v * stride ≤ l
short_room stride e h = omega (arith, mul-le-mul_right stride h, div-mul-le_self short stride)

-- the large buffer, of (1024 / 32 + 32) * 128 values, has room for blocks of elements of any size
pub long_room : {v : Float} {stride w : ℕ} → 0 < stride → w ≡ min stride whole → BlockRoom (replicate 8192 v) stride (1024 / w)
unfolding max_taps
long_room {v} {stride} {w} z e =
    record { some = (le-div_iff_mul-le {k = w} (omega arith)).1 (omega arith); values = omega (arith, values, length-replicate 8192 v) }
  where
    values : (1024 / w + 32) * min stride lanes ≤ 8192
    values =
        ⊎_elim
        (λ (h : 33 ≤ stride). let f : w ≡ 32 = omega arith in rw f (omega arith))
        (λ (h : stride < 33).
        let f : min stride lanes ≡ w = omega arith in
        rw f (omega (arith, add-mul (1024 / w) 32 w, div-mul-le_self 1024 w)))
        (le_or_lt 33 stride)
