-- A premultiplied channel made straight.
use Rattle.std.specs.Prelude.{◌≡◌, false, cond, ℕ, ◌+◌, ◌*◌, ◌/◌, ◌^◌, ◌≤◌, eqb, Float}
use Rattle.std.specs.Float.Ieee.Exact.{HasValue}

-- outward: c becomes floor((255·c + floor(a/2)) / a), or 0 when a is 0
unfoldable pub outward : ℕ → ℕ → ℕ
outward c a = cond (eqb a 0) 0 ((255 * c + a / 2) / a)

-- z is base and a channel outward, in units of 2^j, 1 to 65536: where c is k units and base m, and m has 24 binary digits with room for a byte more
abbrev pub Added : ℕ → ℕ → Float → Float → Type 0
Added c a base z =
    (j k m : ℕ) → j ≤ 16 → c ≡ k * 2 ^ j → k ≤ a → HasValue base false (m * 2 ^ j) 1 → 2 ^ 23 ≤ m → 256 + m ≤ 2 ^ 24 → HasValue z false ((outward k a + m) * 2 ^ j) 1
