-- The sampling view.
use Rattle.std.specs.Prelude.{Bool, cond, List, [], ◌∷◌, ◌++◌, Option, Some, None, ℕ, ◌+◌, ◌*◌, ◌≤◌, eqb, ℤ, length}
use Rattle.std.specs.Borrow.{Bor}
use Rattle.picture.specs.Modes.{mode_of}
use Rattle.picture.specs.Refusal.{Check, check, first_of, picture_checks, wrong_edge}
use Rattle.picture.specs.Slice.{SlicePart, slice_part}
use Rattle.picture.specs.declared.Pixel.{Pixel}
use Rattle.edges.specs.Whole.{place_of}
use Rattle.pixels.specs.Pixels.{pixel_at}
use Rattle.grading.specs.declared.sampling.View.{View}

-- checks 1, 2 and 9
abbrev pub view_checks : ℕ → ℕ → ℕ → ℕ → List Check
view_checks len w h edge = picture_checks len w h ++ check 9 (wrong_edge edge) ∷ []

-- the number that they give
unfoldable pub view_refusal : List ℕ → ℕ → ℕ → ℕ → ℕ
view_refusal bytes w h edge = first_of (view_checks (length bytes) w h edge)

-- they let it through
abbrev pub accepts : List ℕ → ℕ → ℕ → ℕ → Bool
accepts bytes w h edge = eqb (view_refusal bytes w h edge) 0

-- four zeros
abbrev pub clear : Pixel
clear = record { r = 0; g = 0; b = 0; a = 0 }

-- the pixel of a column and a row: four zeros where one of them is outside
abbrev pub sampled_pixel : List ℕ → ℕ → Option ℕ → Option ℕ → Pixel
sampled_pixel bytes w (Some x) (Some y) = pixel_at bytes (y * w + x)
sampled_pixel bytes w (Some x) None = clear
sampled_pixel bytes w None row = clear

-- the bytes hold it
abbrev pub Held : List ℕ → ℕ → Option ℕ → Option ℕ → Type 0
Held bytes w (Some x) (Some y) = 4 * (y * w + x) + 4 ≤ length bytes
Held bytes w (Some x) None = Unit
Held bytes w None row = Unit

-- the pixel at x, y, each extended by the edge rule; a view that the checks refuse answers four zeros everywhere
unfoldable pub sampled : List ℕ → ℕ → ℕ → ℕ → ℤ → ℤ → Pixel
sampled bytes w h edge x y = cond (accepts bytes w h edge) (sampled_pixel bytes w (place_of (mode_of edge) w x) (place_of (mode_of edge) h y)) clear

-- what a view holds: the caller's picture, its sides and the edge number
pub record Seen : Type 0 where
  pub part : SlicePart
  pub w : ℕ
  pub h : ℕ
  pub edge : ℕ

abbrev pub seen : View → Seen
seen v = record { part = slice_part v.picture; w = v.w; h = v.h; edge = v.edge }

-- the part and the sides of a view of a picture; a refused one is 0 by 0 over an empty part
abbrev pub seen_part : Bor (List ℕ) → ℕ → ℕ → ℕ → SlicePart
seen_part picture w h edge = record { block = picture.ref_ptr.0; start = picture.ref_ptr.1; bytes = cond (accepts picture.now w h edge) picture.now [] }

abbrev pub seen_side : List ℕ → ℕ → ℕ → ℕ → ℕ → ℕ
seen_side bytes w h edge side = cond (accepts bytes w h edge) side 0

-- the view of a picture: the edge number is as it was given
unfoldable pub viewed : Bor (List ℕ) → ℕ → ℕ → ℕ → Seen
viewed picture w h edge = record {
  part = seen_part picture w h edge;
  w = seen_side picture.now w h edge w;
  h = seen_side picture.now w h edge h;
  edge = edge;
}
