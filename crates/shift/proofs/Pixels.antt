-- A picture as a plane of bytes, four to a pixel; and offsets rounded and held to the sides move it, and a plane of single bytes, as they would.
use mathlib.Core.Path.{◌≡◌, ap, fun_ext, ◌∙◌}
use mathlib.Core.Bool.{false}
use mathlib.Core.List.{List}
use Prim.Native.Nat.{ℕ, ◌+◌, ◌*◌, ◌/◌, ◌%◌, ◌<◌}
use native.Mathlib.Nat.{mul_comm, mul_left_comm, one-mul, mod-lt, div-lt_iff_lt-mul}
use native.Mathlib.Omega.{arith}
use lib.Ieee.{Float}
use Rattle.picture.specs.Planes.{Line, bytes_of, chan}
use Rattle.picture.proofs.Build.{length_build, get_or-build, build_same}
use Rattle.picture.proofs.Planes.{remainder, quotient, pixel_fits, painted_ext, painted_same}
use Rattle.binary32.specs.Round.{whole_offset, round_offset}
use Rattle.binary32.specs.declared.Offset.{Offset}
use Rattle.binary32.proofs.Offsets.{held, round_offset_held}
use Rattle.shift.specs.Shift.{moved, shifted, shifted_picture}
use Rattle.picture.specs.Buffers.{line_of}
use Rattle.shift.specs.Bytes.{plane_shifted, in_bytes, elements_shifted}
use Rattle.shift.specs.Outcome.{wrong_offsets}
use Rattle.shift.proofs.Moved.{moved_as}
use Rattle.shift.proofs.Rounded.{both_finite, one_way, held_shifted}

-- h rows of w pixels
pub row_bytes_lem : (w h : ℕ) → h * (4 * w) ≡ bytes_of w h
row_bytes_lem w h = omega (arith, mul_left_comm h 4 w, mul_comm h w)

-- byte c of pixel x of a row
moved_pixel : (d : Offset) (s : ℕ) (line : Line) (c x : ℕ) → c < 4 → moved (in_bytes 4 d) (4 * s) line (4 * x + c) ≡ moved d s (λ i. line (4 * i + c)) x
moved_pixel d s line c x l =
    moved_as d s x (in_bytes 4 d) (4 * s) (4 * x + c) (λ i. 4 * i + c) line (λ m. omega arith) (λ i e m. (omega arith, omega arith)) (λ m. omega arith)

pixels_moved : (dx dy : Offset) (w h : ℕ) (bytes : List ℕ) → plane_shifted (in_bytes 4 dx) dy (4 * w) h bytes ≡ shifted_picture dx dy w h bytes
unfolding plane_shifted shifted_picture shifted chan
pixels_moved dx dy w h bytes =
    painted_ext w h _ _ (length_build _ _ ∙ row_bytes_lem w h)
    (λ c x y lc lx ly.
    let z = 4 * x + c in
    let in_row : z < 4 * w = omega arith in
    let at : 4 * (y * w + x) + c ≡ y * (4 * w) + z = omega (arith, mul_left_comm y 4 w) in
    rw (at, get_or-build (h * (4 * w)) _ (y * (4 * w) + z) (pixel_fits (4 * w) h z y in_row ly), remainder (4 * w) y z in_row, quotient (4 * w) y z in_row)
    (moved_pixel dx w _ c x lc
    ∙ ap (λ (line : Line). moved dx w line x)
    (fun_ext (λ i. ap (λ (line : Line). moved dy h line y) (fun_ext (λ j. ap (line_of bytes) {x = j * (4 * w) + (4 * i + c)} {y = 4 * (j * w + i) + c} (omega (arith, mul_left_comm j 4 w))))))))

-- offsets that are finite, rounded and held to the sides
module _ (dx dy : Float) (w h : ℕ) (bytes : List ℕ) (finite : wrong_offsets dx dy ≡ false) where
  abbrev x_held : round_offset w dx ≡ held w (whole_offset dx)
  x_held = round_offset_held w dx (both_finite dx dy finite).0

  abbrev y_held : round_offset h dy ≡ held h (whole_offset dy)
  y_held = round_offset_held h dy (both_finite dx dy finite).1

  -- pixels, ..
  pub picture_moved : elements_shifted 4 dx dy w h bytes ≡ shifted_picture (whole_offset dx) (whole_offset dy) w h bytes
  unfolding shifted_picture
  picture_moved =
      rw (x_held, y_held)
      (pixels_moved (held w (whole_offset dx)) (held h (whole_offset dy)) w h bytes
      ∙ painted_same w h _ _ (λ c x y lc lx ly. held_shifted (whole_offset dx) (whole_offset dy) w h (chan bytes w c) x y (one_way dx) (one_way dy) lx ly))

  -- .. and single bytes
  pub plane_moved : 0 < w → elements_shifted 1 dx dy w h bytes ≡ plane_shifted (whole_offset dx) (whole_offset dy) w h bytes
  unfolding plane_shifted
  plane_moved wide =
      rw (x_held, y_held)
      (simp one-mul
      (build_same (h * w) _ _
      (λ i l. held_shifted (whole_offset dx) (whole_offset dy) w h (λ x y. line_of bytes (y * w + x)) (i % w) (i / w) (one_way dx) (one_way dy) (mod-lt i wide) ((div-lt_iff_lt-mul wide).1 l))))
