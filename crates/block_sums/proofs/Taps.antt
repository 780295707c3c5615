-- Laws of the values that the taps of a kernel reach, and of the room that a buffer has for them.
use mathlib.Core.Path.{◌≡◌}
use mathlib.Core.List.{List}
use Prim.Native.Nat.{ℕ, ◌+◌, ◌-◌, ◌*◌, ◌/◌, ◌≤◌, ◌<◌, min}
use native.Mathlib.Nat.{add-mul, one-mul, mul-le-mul_right}
use native.Mathlib.Omega.{arith}
use lib.Ieee.{Float}
use lib.ListN.{length}
use Rattle.picture.specs.Refusal.{max_taps}
use Rattle.picture.proofs.Conditions.{right_taps}
use Rattle.picture.proofs.Sizes.{room_is}
use Rattle.edges.specs.Edges.{Reach}
use Rattle.passes.specs.Kernel.{Kernel}
use Rattle.passes.proofs.Taps.{few_taps}
use Rattle.block_sums.specs.Room.{Source, whole, lanes, BlockRoom}

-- the coordinates that a block of m elements from x on reads
module _ {src : List ℕ} {weights : List Float} {start len stride : ℕ} (s : Source src weights start len stride) (x m : ℕ) (l : 0 < m) (h : x + m ≤ len) where
  pub block_reach : Reach len (x + (m + (length weights - 1))) (length weights / 2)
  block_reach =
      let few = few_taps _ s.kernel.counted in
      record { s_low = omega arith; s_high = s.len_high; c_high = omega (arith, s.len_high, room_is); d_high = omega arith }

-- m elements of n lanes, and what the taps add at their ends
pub taps_room : (m k n : ℕ) → 0 < k → (m + (k - 1)) * n + n ≡ k * n + m * n
taps_room m k n l =
    let e : m + (k - 1) + 1 ≡ k + m = omega arith in
    omega (arith, add-mul (m + (k - 1)) 1 n, one-mul n, add-mul k m n, ap_mul n e)
  where
    ap_mul : (n : ℕ) {a b : ℕ} → a ≡ b → a * n ≡ b * n
    ap_mul n e = rw e

-- the buffer has room for a block of elements that go in strips, and for one of whole elements
module _ {weights line : List Float} (w : Kernel weights) (m stride : ℕ) (b : BlockRoom line stride m) where
  pub strip_room : (m + (length weights - 1)) * min stride lanes ≤ length line
  strip_room =
      let k : m + (length weights - 1) ≤ m + (max_taps - 1) = omega (arith, ((right_taps _).0 w.counted).high) in
      omega (arith, mul-le-mul_right (min stride lanes) k, b.values)

  pub whole_room : stride ≤ whole → (m + (length weights - 1)) * stride ≤ length line
  whole_room l =
      let e : min stride lanes ≡ stride = omega arith in
      rw e at strip_room
