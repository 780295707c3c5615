-- A pixel in one word.
use Rattle.std.specs.Prelude.{ℕ, zero, suc, ◌/◌, ◌%◌}
use Rattle.picture.specs.declared.Pixel.{Pixel}

-- the pixel in one number: r | g<<8 | b<<16 | a<<24
abbrev pub unpacked : ℕ → Pixel
unpacked n = record { r = n % 256; g = n / 256 % 256; b = n / 65536 % 256; a = n / 16777216 % 256 }

-- its channel c
abbrev pub byte_in : ℕ → ℕ → ℕ
byte_in n zero = n % 256
byte_in n (suc zero) = n / 256 % 256
byte_in n (suc (suc zero)) = n / 65536 % 256
byte_in n (suc (suc (suc c))) = n / 16777216 % 256
