-- Bytes that are carried from one form to the other: where each is read, and where it is written.
use Rattle.std.specs.Prelude.{◌≡◌, cond, List, ℕ, ◌+◌, ◌*◌, ◌/◌, ◌%◌, ◌≤◌, ◌<◌, ltb, length, get_or, set}

-- the place of each byte, in the order in which they are carried
abbrev pub Places : Type 0
Places = ℕ → ℕ

-- the first m of them stand where they are written as they stood where they are read
abbrev pub Carried : Places → Places → List ℕ → List ℕ → ℕ → Type 0
Carried read write src dst m = (j : ℕ) → j < m → get_or dst (write j) 0 ≡ get_or src (read j) 0

-- pixel after pixel, and the channels of each: `channel` apart, where one channel of two pixels is `pixel` apart
abbrev pub pixelwise : ℕ → ℕ → Places
pixelwise channel pixel j = j % 4 * channel + j / 4 * pixel

-- four bytes that are read s apart from p on, written d apart from q on
abbrev pub with_pixel : List ℕ → ℕ → ℕ → List ℕ → ℕ → ℕ → List ℕ
with_pixel src p s dst q d = set (set (set (set dst q (get_or src p 0)) (q + d) (get_or src (p + s) 0)) (q + 2 * d) (get_or src (p + 2 * s) 0)) (q + 3 * d) (get_or src (p + 3 * s) 0)

-- what carrying the pixels from `from` up to `to` needs: those before are there, and each byte has a place of its own
pub record Carries (read write : Places) (from to : ℕ) (src dst : List ℕ) : Type 0 where
  pub order : from ≤ to
  pub short : (length src ≤ 17179869184) × (length dst ≤ 17179869184)
  pub reads : (j : ℕ) → j < 4 * to → read j < length src
  pub writes : (j : ℕ) → j < 4 * to → write j < length dst
  pub own : (i j : ℕ) → i < 4 * to → j < 4 * to → write i ≡ write j → i ≡ j
  pub done : Carried read write src dst (4 * from)

-- how many bytes a plane is ahead of the last
abbrev pub lead : ℕ → ℕ
lead c = cond (ltb c 2) 16 0

-- how many pixels of channel c are in its plane: m and the lead, and a block of 64 more of the channels below t
abbrev pub reach : ℕ → ℕ → ℕ → ℕ
reach m t c = m + lead c + cond (ltb c t) 64 0

-- the pixels of each channel that are in the planes, of n bytes each
abbrev pub InPlanes : ℕ → ℕ → ℕ → List ℕ → List ℕ → Type 0
InPlanes n m t src dst = (c k : ℕ) → c < 4 → k < reach m t c → get_or dst (c * n + k) 0 ≡ get_or src (4 * k + c) 0

-- a picture of n pixels, few enough to be counted, and room for its other form
pub record Counted (n : ℕ) (src dst : List ℕ) : Type 0 where
  pub few : n ≤ 4294967296
  pub source : length src ≡ 4 * n
  pub room : length dst ≡ 4 * n
