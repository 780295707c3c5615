-- Opaque pixels in front of others.
use Rattle.std.specs.Prelude.{◌≡◌, List, ℕ, ◌+◌, ◌*◌, ◌%◌, ◌≤◌, length, get_or, take}
use Rattle.picture.specs.Planes.{laid}

-- every pixel of the first n bytes has alpha 255
abbrev pub Opaque : List ℕ → ℕ → Type 0
Opaque bytes n = (i : ℕ) → 4 * i + 4 ≤ n → get_or bytes (4 * i + 3) 0 ≡ 255

-- the first n bytes are opaque pixels, and are laid over `old`
pub record Front (from old : List ℕ) (n : ℕ) (new : List ℕ) : Type 0 where
  pub inside : n ≤ length from
  pub pixels : n % 4 ≡ 0
  pub opaque : Opaque from n
  pub copied : new ≡ laid (take n from) old
