-- The two forms as places of pixels: what carrying from the one to the other needs, and what it makes.
use mathlib.Core.Path.{◌≡◌, ◌∙◌, sym, ap}
use mathlib.Core.List.{List}
use Prim.Native.Nat.{ℕ, ◌+◌, ◌*◌, ◌/◌, ◌%◌, ◌≤◌, ◌<◌}
use native.Mathlib.Omega.{arith}
use native.Mathlib.Nat.{mul_comm}
use lib.ListN.{length}
use Rattle.picture.specs.Planes.{bytes_of, chan}
use Rattle.picture.specs.Sizes.{full_bytes}
use Rattle.picture.specs.declared.FullSize.{FullSize}
use Rattle.picture.proofs.Sizes.{area}
use Rattle.picture.proofs.Planes.{quotient, remainder, pixel_fits, painted_ext}
use Rattle.planes.specs.Planar.{plane_of, planar, interleaved, Converts}
use Rattle.planes.specs.Places.{Places, Carried, Carries, Counted, pixelwise}
use Rattle.planes.proofs.Planar.{planes_ext}
use Rattle.planes.proofs.Carried.{Own, read, channel_at_lem}

-- n pixels have places of their own in 4n bytes
pub record Form (place : Places) (n : ℕ) : Type 0 where
  pub inside : (j : ℕ) → j < 4 * n → place j < 4 * n
  pub own : Own place (4 * n)

pub in_planes : (n : ℕ) → Form (pixelwise n 1) n
in_planes n =
    record {
      inside = λ j l. omega (arith, pixel_fits n 4 (j / 4) (j % 4) (omega arith) (omega arith));
      own = λ i j li lj e.
          let at : i % 4 * n + i / 4 ≡ j % 4 * n + j / 4 = omega arith in
          let q : i % 4 ≡ j % 4 = sym (quotient n (i % 4) (i / 4) (omega arith)) ∙ ap (λ (k : ℕ). k / n) at ∙ quotient n (j % 4) (j / 4) (omega arith) in
          let r : i / 4 ≡ j / 4 = sym (remainder n (i % 4) (i / 4) (omega arith)) ∙ ap (λ (k : ℕ). k % n) at ∙ remainder n (j % 4) (j / 4) (omega arith) in
          omega arith;
    }

pub in_picture : (n : ℕ) → Form (pixelwise 1 4) n
in_picture n = record { inside = λ j l. omega arith; own = λ i j li lj e. omega arith }

-- how many pixels are converted
pub counted : (size : FullSize) (src dst : List ℕ) (bytes : ℕ) → Converts size src dst → bytes ≡ full_bytes size → Counted (bytes / 4) src dst
counted size src dst bytes r e =
    record { few = omega (arith, area r.given.sized, e); source = omega (arith, r.given.exact, e); room = omega (arith, r.room, e) }

-- pixels can be carried from any form to any
pub ready : {read write : Places} {n from to : ℕ} {src dst : List ℕ} → Form read n → Form write n → Counted n src dst → from ≤ to → to ≤ n → Carried read write src dst (4 * from) → Carries read write from to src dst
ready r w c order within done =
    record {
      order = order;
      short = (omega (arith, c.few, c.source), omega (arith, c.few, c.room));
      reads = λ j l. rw c.source (r.inside j (omega arith));
      writes = λ j l. rw c.room (w.inside j (omega arith));
      own = λ i j li lj. w.own i j (omega arith) (omega arith);
      done = done;
    }

-- all pixels are carried
module _ (w h n : ℕ) (src dst : List ℕ) (is : n ≡ w * h) (long : length dst ≡ 4 * n) where
  size : length dst ≡ bytes_of w h
  size = long ∙ ap (λ (k : ℕ). 4 * k) is

  inside : (x y : ℕ) → x < w → y < h → y * w + x < n
  inside x y lx ly = omega (arith, is, mul_comm w h, pixel_fits w h x y lx ly)

  pub split_whole : Carried (pixelwise 1 4) (pixelwise n 1) src dst (4 * n) → dst ≡ planar w h src
  unfolding planar plane_of chan
  split_whole f =
      planes_ext w h _ dst size
      (λ c x y lc lx ly.
      let area : n ≡ h * w = is ∙ mul_comm w h in
      rw (← area) (read dst (omega arith) ∙ channel_at_lem 1 4 n 1 src dst n f c (y * w + x) lc (inside x y lx ly) ∙ read src (omega arith)))

  pub join_whole : Carried (pixelwise n 1) (pixelwise 1 4) src dst (4 * n) → dst ≡ interleaved w h src
  unfolding interleaved plane_of chan
  join_whole f =
      painted_ext w h _ dst size
      (λ c x y lc lx ly.
      let area : n ≡ h * w = is ∙ mul_comm w h in
      rw (← area) (read dst (omega arith) ∙ channel_at_lem n 1 1 4 src dst n f c (y * w + x) lc (inside x y lx ly) ∙ read src (omega arith)))
