-- `over` in whole numbers, for all bytes: the exact value (255 s + d (255 - a)) / 255 is never within 1 / 510 of a half, and the roundings move it by less.
use mathlib.Core.Path.{◌≡◌, refl, ap}
use Prim.Native.Nat.{ℕ, ◌+◌, ◌-◌, ◌*◌, ◌/◌, ◌≤◌, min}
use native.Mathlib.Nat.{zero-lt-suc, add-mul, mul-add, mul-mul-mul_comm, mul-le-mul}
use native.Mathlib.Omega.{arith}
use lib.Dec.{lit≤}
use lib.Ieee.{Float, binary32, add, sub, mul}
use Rattle.binary32.specs.Ranges.{one32}
use Rattle.binary32.specs.Round.{top32, to_byte}
use Rattle.composite.specs.Channels.{norm, norm_byte, over}
use Rattle.composite.proofs.Between.{Grid, Between, sub_between, mul_between, add_between, settled}
use Rattle.composite.proofs.Units.{fine, lo, hi, norm_in}

-- the grid of 2 ^ -14, for values up to 1024
coarse : Grid 16384
coarse = record { step = zero-lt-suc 16383; digits = 135; whole = refl; room = lit≤ tt }

top_in : Between 1 top32 255 255
top_in = record { flat = tt; above = record { le = omega arith }; below = record { le = omega arith } }

-- a product of numbers that are larger by at most 254
near : (A B X Y : ℕ) → A ≤ X + 254 → B ≤ Y + 254 → X ≤ 1069547520 → Y ≤ 1069547520 → A * B ≤ X * Y + 543330204676
near A B X Y a b x y = omega (arith, mul-le-mul a b, add-mul X 254 (Y + 254), mul-add X Y 254)

-- the value before it is rounded
abbrev mixed : ℕ → ℕ → ℕ → Float
mixed s d a = mul binary32 (add binary32 (norm s) (mul binary32 (norm d) (sub binary32 one32 (norm a)))) top32

module _ (s d a : ℕ) (S : s ≤ 255) (D : d ≤ 255) (A : a ≤ 255) where
  -- the steps below and above it, as it is made
  abbrev low_product : ℕ
  low_product = lo d * (4194304 - hi a)

  abbrev high_product : ℕ
  high_product = hi d * (4194304 - lo a)

  abbrev low : ℕ
  low = 255 * (lo s + low_product / 4194304) / 256

  abbrev high : ℕ
  high = (255 * (hi s + (high_product / 4194304 + 1)) + 255) / 256

  many : d * (255 - a) * 17592186044416 ≤ 65025 * low_product + 543330204676
  many = omega (arith, near (d * 4194304) ((255 - a) * 4194304) (255 * lo d) (255 * (4194304 - hi a)) (omega arith) (omega arith) (omega arith) (omega arith), mul-mul-mul_comm d 4194304 (255 - a) 4194304, mul-mul-mul_comm 255 (lo d) 255 (4194304 - hi a))

  few : 65025 * high_product ≤ d * (255 - a) * 17592186044416 + 543330204676
  few = omega (arith, near (255 * hi d) (255 * (4194304 - lo a)) (d * 4194304) ((255 - a) * 4194304) (omega arith) (omega arith) (omega arith) (omega arith), mul-mul-mul_comm d 4194304 (255 - a) 4194304, mul-mul-mul_comm 255 (hi d) 255 (4194304 - lo a))

  mixed_in : Between 16384 (mixed s d a) low high
  mixed_in =
      let few' = few in
      let most : d * (255 - a) ≤ 65025 = mul-le-mul {n₁ = d} {m₁ = 255 - a} {n₂ = 255} {m₂ = 255} D (omega arith) in
      mul_between
      (add_between (norm_in s S)
      (mul_between (norm_in d D) (sub_between (norm_in a A) fine (omega arith) (lit≤ tt)) fine (low_product / 4194304) (high_product / 4194304 + 1) (lit≤ tt) (omega arith) (record { le = omega arith }) (record { le = omega arith }))
      fine (omega arith))
      top_in coarse low high (lit≤ tt) (omega arith) (record { le = omega arith }) (record { le = omega arith })

  pub over_is : over s d a ≡ min 255 (s + (d * (255 - a) + 127) / 255)
  unfolding over norm_byte to_byte
  over_is =
      ap (λ (n : ℕ). min 255 n)
      (settled (s + (d * (255 - a) + 127) / 255) (zero-lt-suc 16383) mixed_in (omega (arith, many)) (omega (arith, few)))
