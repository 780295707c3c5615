-- A pixel of bytes comes back out of the number that it is packed into; and so packed pixels are counted as they are.
use mathlib.Core.Path.{◌≡◌, ap, ◌∙◌}
use mathlib.Core.List.{List}
use Prim.Native.Nat.{ℕ, ◌+◌, ◌*◌, ◌/◌, ◌%◌, ◌≤◌, ◌<◌}
use native.Mathlib.Omega.{arith}
use lib.ListN.{length, get_or}
use Rattle.picture.specs.Build.{build}
use Rattle.picture.proofs.Build.{length_build, get_or-build}
use Rattle.picture.proofs.Planes.{remainder, quotient}
use Rattle.picture.specs.declared.Pixel.{Pixel}
use Rattle.pixels.specs.Pixels.{pixel_at, packed}
use Rattle.pixels.specs.Channels.{exceeds, exceeds_at}
use Rattle.counting.specs.Counts.{how_many}
use Rattle.counting.specs.Words.{unpacked}
use Rattle.counting.proofs.Counted.{many_same}

-- each channel is a byte
pub record Byted (p : Pixel) : Type 0 where
  pub r_fits : p.r ≤ 255
  pub g_fits : p.g ≤ 255
  pub b_fits : p.b ≤ 255
  pub a_fits : p.a ≤ 255

-- a number that is q whole groups of m and x more
grouped : (m q x n : ℕ) → x < m → n ≡ q * m + x → (n / m ≡ q) × (n % m ≡ x)
grouped m q x n l e = rw e (quotient m q x l, remainder m q x l)

pub unpacks : (p : Pixel) → Byted p → unpacked (packed p) ≡ p
unpacks p y =
    let n = packed p in
    let red = grouped 256 (p.g + p.b * 256 + p.a * 65536) p.r n (omega arith) (omega arith) in
    let green = grouped 256 (p.b + p.a * 256) p.g (n / 256) (omega arith) (omega arith) in
    let two = grouped 65536 (p.b + p.a * 256) (p.r + p.g * 256) n (omega arith) (omega arith) in
    let blue = grouped 256 p.a p.b (n / 65536) (omega arith) (omega arith) in
    let three = grouped 16777216 p.a (p.r + p.g * 256 + p.b * 65536) n (omega arith) (omega arith) in
    let alpha = grouped 256 0 p.a (n / 16777216) (omega arith) (omega arith) in
    rw (red.1, green.1, blue.1, alpha.1)

-- a list of bytes
abbrev pub Bytes : List ℕ → Type 0
Bytes bytes = (i : ℕ) → get_or bytes i 0 ≤ 255

-- each of its pixels comes back
pub unpacks_at : (bytes : List ℕ) → Bytes bytes → (k : ℕ) → unpacked (packed (pixel_at bytes k)) ≡ pixel_at bytes k
unpacks_at bytes fit k =
    unpacks (pixel_at bytes k)
    (record { r_fits = fit (4 * k + 0); g_fits = fit (4 * k + 1); b_fits = fit (4 * k + 2); a_fits = fit (4 * k + 3) })

-- a block of packed pixels has as many that fail as the pixels themselves
pub packed_many : (bytes words : List ℕ) (from n : ℕ) → Bytes bytes → words ≡ build n (λ k. packed (pixel_at bytes (from + k))) →
    how_many (λ k. exceeds (unpacked (get_or words k 0))) (length words) ≡ how_many (λ k. exceeds_at bytes (from + k)) n
packed_many bytes words from n fit e =
    rw (e, length_build n (λ k. packed (pixel_at bytes (from + k))))
    (many_same _ _ n (λ k l. ap (λ (v : ℕ). exceeds (unpacked v)) (get_or-build n _ k l) ∙ ap exceeds (unpacks_at bytes fit (from + k))))
