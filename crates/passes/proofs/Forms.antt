-- A picture's bytes in a form: each of reading and writing undoes the other; and a pass over lines is the pass along the rows or along the
-- columns of each channel, whatever the form.
use mathlib.Core.Path.{◌≡◌, ◌∙◌, sym, ap, fun_ext}
use mathlib.Core.List.{List}
use mathlib.Core.Logic.{⊎_elim}
use Prim.Native.Nat.{ℕ, ◌+◌, ◌*◌, ◌/◌, ◌%◌, ◌≤◌, ◌<◌}
use native.Mathlib.Omega.{arith}
use native.Mathlib.Nat.{add-mul, mul_assoc, mul_comm, mul-zero, zero-mul, mod-lt, div-lt_iff_lt-mul, div-add-mod', eq-zero-or-pos, mul-le-mul, mul-le-mul_left}
use lib.ListN.{length}
use Rattle.picture.specs.Planes.{Line, Plane, bytes_of, chan, painted}
use Rattle.picture.specs.Sizes.{Sides, Sized}
use Rattle.picture.specs.declared.LevelSize.{LevelSize}
use Rattle.picture.proofs.Build.{length_build, get_or-build, build_ext}
use Rattle.picture.proofs.Planes.{quotient, remainder, pixel_fits, painted_same, painted_ext}
use Rattle.picture.proofs.Sizes.{room_is}
use Rattle.passes.specs.declared.Form.{Form}
use Rattle.passes.specs.Passes.{Pass, rows, cols}
use Rattle.passes.specs.Written.{passed}
use Rattle.passes.specs.Forms.{of_pixels, channels, row_bytes, plane_bytes, form_bytes, read_as, write_as, form_pass, Formed}
use Rattle.passes.proofs.Local.{Local}
use Rattle.passes.proofs.Planes.{at, length_passed}
use Rattle.passes.proofs.Written.{passed_at}

-- a product that is not 0 has no factor that is
right_pos : (a b : ℕ) → 0 < a * b → 0 < b
right_pos a b l = ⊎_elim (λ z. absurd (omega (arith, ap (λ (k : ℕ). a * k) z, mul-zero a))) (λ p. p) (eq-zero-or-pos b)

module _ (f : Form) (w h : ℕ) where
  pub length_write : (F : ℕ → Plane) → length (write_as f w h F) ≡ form_bytes f w h
  unfolding write_as
  length_write F = length_build _ _

  -- the channels of what was written are the planes that it was written from
  pub read_write : (F : ℕ → Plane) (c x y : ℕ) → c < channels f → x < w → y < h → read_as f (write_as f w h F) w h c x y ≡ F c x y
  unfolding read_as write_as
  read_write F c x y lc lx ly =
      let e = f.lanes in
      let some : 0 < e = right_pos f.planes e (omega arith) in
      let lane : c % e < e = mod-lt c some in
      let p : c / e < f.planes = (div-lt_iff_lt-mul some).1 lc in
      let a : x * e + c % e < w * e = pixel_fits e w (c % e) x lane lx in
      let b : y * (w * e) + (x * e + c % e) < h * (w * e) = pixel_fits (w * e) h (x * e + c % e) y a ly in
      let all : c / e * (h * (w * e)) + (y * (w * e) + (x * e + c % e)) < f.planes * (h * (w * e)) = pixel_fits (h * (w * e)) f.planes _ (c / e) b p in
      get_or-build (form_bytes f w h) _ _ all
      ∙ rw (quotient (h * (w * e)) (c / e) _ b, remainder (h * (w * e)) (c / e) _ b, quotient (w * e) y _ a, remainder (w * e) y _ a, quotient e x _ lane, remainder e x _ lane, div-add-mod' c e)

  -- bytes of the right length with these channels are what is written
  pub write_ext : (F : ℕ → Plane) (l : List ℕ) → length l ≡ form_bytes f w h →
      ((c x y : ℕ) → c < channels f → x < w → y < h → read_as f l w h c x y ≡ F c x y) → l ≡ write_as f w h F
  unfolding read_as write_as
  write_ext F l e g =
      build_ext (form_bytes f w h) _ l e
      (λ i lt.
      let n = f.lanes in
      let plane : 0 < h * (w * n) = right_pos f.planes _ (omega arith) in
      let row : 0 < w * n = right_pos h _ plane in
      let some : 0 < n = right_pos w n row in
      let p = i / (h * (w * n)) in
      let r = i % (h * (w * n)) in
      let k = r % (w * n) in
      let lp : p < f.planes = (div-lt_iff_lt-mul plane).1 lt in
      let ly : r / (w * n) < h = (div-lt_iff_lt-mul row).1 (mod-lt i plane) in
      let lx : k / n < w = (div-lt_iff_lt-mul some).1 (mod-lt r row) in
      let lk : k % n < n = mod-lt k some in
      let back : (p * n + k % n) / n * (h * (w * n)) + (r / (w * n) * (w * n) + (k / n * n + (p * n + k % n) % n)) ≡ i =
      rw (quotient n p (k % n) lk, remainder n p (k % n) lk) (omega (arith, div-add-mod' i (h * (w * n)), div-add-mod' r (w * n), div-add-mod' k n)) in
      at l (sym back) ∙ g (p * n + k % n) (k / n) (r / (w * n)) (pixel_fits n f.planes (k % n) p lk lp) lx ly)

-- planes that agree inside are written alike
pub write_same : (f : Form) (w h : ℕ) (F G : ℕ → Plane) → ((c x y : ℕ) → c < channels f → x < w → y < h → F c x y ≡ G c x y) → write_as f w h F ≡ write_as f w h G
write_same f w h F G e =
    write_ext f w h G (write_as f w h F) (length_write f w h F) (λ c x y lc lx ly. read_write f w h F c x y lc lx ly ∙ e c x y lc lx ly)

-- the half of a level has no more bytes, and what is between two passes no more than the larger level
pub form_grows : (f : Form) {v u w h : ℕ} → v ≤ w → u ≤ h → form_bytes f v u ≤ form_bytes f w h
form_grows f {v} {u} {w} {h} a b =
    mul-le-mul_left f.planes
    (mul-le-mul {n₁ = u} {m₁ = v * f.lanes} {n₂ = h} {m₂ = w * f.lanes} b (mul-le-mul {n₁ = v} {m₁ = f.lanes} {n₂ = w} {m₂ = f.lanes} a (omega arith)))

module _ (g : Pass) (f : Form) (src : List ℕ) (w h v : ℕ) where
  abbrev lanes : ℕ
  lanes = f.lanes

  some_lanes : (c : ℕ) → c < channels f → 0 < lanes
  some_lanes c l = right_pos f.planes lanes (omega arith)

  plane_of_lem : (c : ℕ) → c < channels f → c / lanes < f.planes
  plane_of_lem c l = (div-lt_iff_lt-mul (some_lanes c l)).1 l

  lane_of : (c : ℕ) → c < channels f → c % lanes < lanes
  lane_of c l = mod-lt c (some_lanes c l)

  -- a row of a plane is a line, ..
  row_place : (n p y i k : ℕ) → p * (h * n) + (y * n + (i + k)) ≡ (p * h + y) * n + i + k
  row_place n p y i k = omega (arith, add-mul (p * h) y n, mul_assoc p h n)

  -- all rows, made v wide
  pub rows_formed : passed g src (f.planes * h) w v lanes ≡ write_as f v h (λ c. rows g w (read_as f src w h c))
  unfolding read_as
  rows_formed =
      write_ext f v h _ _ (length_passed g src (f.planes * h) w v lanes ∙ mul_assoc f.planes h (v * lanes))
      (λ c x y lc lx ly.
      at (passed g src (f.planes * h) w v lanes) (row_place (v * lanes) (c / lanes) y (x * lanes) (c % lanes))
      ∙ passed_at g src (f.planes * h) w v lanes (c / lanes * h + y) x (c % lanes) (pixel_fits h f.planes y (c / lanes) ly (plane_of_lem c lc)) lx (lane_of c lc)
      ∙ ap (λ (p : Line). g w p x) (fun_ext (λ i. at src (sym (row_place (w * lanes) (c / lanes) y (i * lanes) (c % lanes))))))

  -- .. and a plane is a line whose elements are its rows
  col_place : (n p y k : ℕ) → p * n + (y * (w * lanes) + k) ≡ p * n + y * (w * lanes) + k
  col_place n p y k = omega arith

  -- the columns, made v high
  pub cols_formed : passed g src f.planes h v (w * lanes) ≡ write_as f w v (λ c. cols g h (read_as f src w h c))
  unfolding read_as
  cols_formed =
      write_ext f w v _ _ (length_passed g src f.planes h v (w * lanes))
      (λ c x y lc lx ly.
      at (passed g src f.planes h v (w * lanes)) (col_place (v * (w * lanes)) (c / lanes) y (x * lanes + c % lanes))
      ∙ passed_at g src f.planes h v (w * lanes) (c / lanes) y (x * lanes + c % lanes) (plane_of_lem c lc) ly (pixel_fits lanes w (c % lanes) x (lane_of c lc) lx)
      ∙ ap (λ (p : Line). g h p y) (fun_ext (λ j. at src (sym (col_place (h * (w * lanes)) (c / lanes) j (x * lanes + c % lanes))))))

-- rows of src into t's width, then columns of what they became into t's height
pub form_passed : (f : Form) (g : Pass) → Local g → (s t : LevelSize) → Sized s → (src : List ℕ) →
    passed g (passed g src (f.planes * s.h) s.w t.w f.lanes) f.planes s.h t.h (t.w * f.lanes) ≡ form_pass f g s t src
unfolding form_pass
form_passed f g l s t z src =
    let wide : ℕ → Plane = λ c. rows g s.w (read_as f src s.w s.h c) in
    ap (λ (b : List ℕ). passed g b f.planes s.h t.h (t.w * f.lanes)) (rows_formed g f src s.w s.h t.w)
    ∙ cols_formed g f (write_as f t.w s.h wide) t.w s.h t.h
    ∙ write_same f t.w t.h _ _ (λ c x y lc lx ly. l s.h _ _ z.h_low (λ j lj. read_write f t.w s.h wide c x j lc lx lj) y)

-- a picture of pixels is one of the forms
pub pixels_formed : Formed of_pixels
pixels_formed = record { planes_low = omega arith; planes_high = omega arith; lanes_low = omega arith; lanes_high = omega arith }

pub pixel_bytes : (w h : ℕ) → form_bytes of_pixels w h ≡ bytes_of w h
pixel_bytes w h = omega (arith, mul_assoc h w 4, mul_comm h w)

-- as many bytes as the pixels have
pub as_pixels : (w h : ℕ) {n : ℕ} → n ≡ bytes_of w h → n ≡ form_bytes of_pixels w h
as_pixels w h e = e ∙ sym (pixel_bytes w h)

pub pixel_read : (bytes : List ℕ) (w h c x y : ℕ) → c < 4 → read_as of_pixels bytes w h c x y ≡ chan bytes w c x y
unfolding read_as chan
pixel_read bytes w h c x y lc =
    let p : c / 4 ≡ 0 = omega arith in
    let k : c % 4 ≡ c = omega arith in
    at bytes (rw (p, k) (omega (arith, zero-mul (h * (w * 4)), mul_assoc y w 4)))

pub pixel_write : (w h : ℕ) (F : ℕ → Plane) → write_as of_pixels w h F ≡ painted w h F
pixel_write w h F =
    painted_ext w h F _ (length_write of_pixels w h F ∙ pixel_bytes w h)
    (λ c x y lc lx ly. sym (pixel_read (write_as of_pixels w h F) w h c x y lc) ∙ read_write of_pixels w h F c x y lc lx ly)

-- what works on each channel works on pixels alike, however it is said, as long as it looks only inside
pub pixels_alike : (w h v u : ℕ) (Op : Plane → Plane) → ((p q : Plane) → ((x y : ℕ) → x < w → y < h → p x y ≡ q x y) → (x y : ℕ) → Op p x y ≡ Op q x y) →
    (bytes : List ℕ) → write_as of_pixels v u (λ c. Op (read_as of_pixels bytes w h c)) ≡ painted v u (λ c. Op (chan bytes w c))
pixels_alike w h v u Op local bytes =
    pixel_write v u _ ∙ painted_same v u _ _ (λ c x y lc _ _. local _ _ (λ i j li lj. pixel_read bytes w h c i j lc) x y)

-- the bytes of a row, of a plane and of all planes are numbers that the arithmetic has room for
pub form_room : (f : Form) → Formed f → {w h : ℕ} → Sides w h → (row_bytes f w ≤ 262144) × (plane_bytes f w h ≤ 17179869184) × (form_bytes f w h ≤ 68719476736)
form_room f z {w} {h} s =
    let a : w * f.lanes ≤ 65536 * 4 = mul-le-mul {n₁ = w} {m₁ = f.lanes} {n₂ = 65536} {m₂ = 4} (omega (arith, s.w_high, room_is)) z.lanes_high in
    let b : h * (w * f.lanes) ≤ 65536 * 262144 = mul-le-mul {n₁ = h} {m₁ = w * f.lanes} {n₂ = 65536} {m₂ = 262144} (omega (arith, s.h_high, room_is)) a in
    (a, b, mul-le-mul {n₁ = f.planes} {m₁ = h * (w * f.lanes)} {n₂ = 4} {m₂ = 17179869184} z.planes_high b)
