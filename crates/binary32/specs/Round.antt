-- Rounding to a whole number: of a channel, halves upward, and of an offset, halves away from zero.
use Rattle.std.specs.Prelude.{ℕ, ◌+◌, ◌*◌, ◌/◌, min, Bool, true, false, pos, Float}
use Rattle.std.specs.Float.{nan, inf, fin}
use Rattle.std.specs.Float.Ieee.Positive.{num, den}
use Rattle.binary32.specs.declared.Offset.{Offset}

-- the whole number nearest to a / c, halves upward: the floor of a / c + 1 / 2
abbrev pub half_up : ℕ → ℕ → ℕ
half_up a c = (2 * a + c) / (2 * c)

-- the whole number nearest to x, halves upward, of a finite x not below 0; else of its size, and 0 of a NaN and of an infinity
unfoldable pub round_half_up : Float → ℕ
round_half_up x = half_up (num x) (den x)

-- a channel: rounded, and 255 where that exceeds 255
unfoldable pub to_byte : Float → ℕ
to_byte x = min 255 (round_half_up x)

-- 255.0, the largest channel
abbrev pub top32 : Float
top32 = fin false 255 (pos 0)

-- n steps forward, or backward where the sign is minus
abbrev pub signed_steps : Bool → ℕ → Offset
signed_steps false n = record { plus = n; minus = 0 }
signed_steps true n = record { plus = 0; minus = n }

-- whether x has a minus sign; a NaN counts as having none
abbrev pub minus_sign : Float → Bool
minus_sign nan = false
minus_sign (inf s) = s
minus_sign (fin s m e) = s

-- a finite offset to the nearest whole number, halves away from zero: its size is rounded, and keeps its sign
unfoldable pub whole_offset : Float → Offset
whole_offset x = signed_steps (minus_sign x) (round_half_up x)

-- the size of x rounded and held to a bound; an infinite one is the bound, and a NaN is 0
unfoldable pub held_size : ℕ → Float → ℕ
held_size bound nan = 0
held_size bound (inf s) = bound
held_size bound (fin s m e) = min bound (round_half_up (fin s m e))

-- any offset, rounded so and held to the bound either way: of a finite x it is `whole_offset` held (`round_offset_held`)
unfoldable pub round_offset : ℕ → Float → Offset
round_offset bound x = signed_steps (minus_sign x) (held_size bound x)
