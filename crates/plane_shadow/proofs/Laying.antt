-- A loop that writes pixel after pixel into four planes: what it has so far, what it reads there, a turn, and all of it.
use mathlib.Core.Path.{◌≡◌, ◌∙◌, refl, sym, ap, ap₂}
use mathlib.Core.Bool.{Bool, true, false}
use mathlib.Core.List.{List}
use mathlib.Core.Logic.{◌≢◌}
use Prim.Native.Nat.{ℕ, zero, suc, ◌+◌, ◌*◌, ◌/◌, ◌%◌, ◌≤◌, ◌<◌}
use native.Mathlib.Nat.{mul_comm, div-add-mod'}
use native.Mathlib.Omega.{arith}
use lib.Dec.{eqb}
use lib.ListN.{length, set, length-set}
use lib.Seq.{get_or-set_same, get_or-set_other}
use borrow.Author.Tests.{eqb-true, eqb-false}
use Rattle.picture.specs.Planes.{Plane}
use Rattle.picture.specs.Buffers.{line_of}
use Rattle.picture.specs.declared.Pixel.{Pixel}
use Rattle.picture.proofs.Planes.{remainder, quotient, pixel_fits}
use Rattle.planes.specs.Planar.{plane_of, painted_planes}
use Rattle.planes.proofs.Planar.{planes_ext}
use Rattle.pixels.specs.Pixels.{pixel}
use Rattle.plane_shadow.specs.Places.{channel_in, pixel_in, with_pixel_in}

-- channel c of pixel i of w by h, where these are the planes' sides
pub planes_here : (planes : List ℕ) (w h n c i : ℕ) → n ≡ w * h → plane_of planes w h c (i % w) (i / w) ≡ channel_in n planes i c
unfolding plane_of
planes_here planes w h n c i is = ap₂ (λ (m k : ℕ). line_of planes (c * m + k)) (mul_comm h w ∙ sym is) (div-add-mod' i w)

-- one pixel of planes of n written
as_long : (n : ℕ) (bytes : List ℕ) (i : ℕ) (q : Pixel) → length (with_pixel_in n bytes i q) ≡ length bytes
unfolding with_pixel_in
as_long n bytes i q = simp length-set

module _ (n : ℕ) (bytes : List ℕ) (whole : length bytes ≡ 4 * n) (i : ℕ) (l : i < n) (q : Pixel) where
  abbrev red : List ℕ
  red = set bytes i q.r

  abbrev green : List ℕ
  green = set red (n + i) q.g

  abbrev blue : List ℕ
  blue = set green (2 * n + i) q.b

  -- other pixels stay
  stays : (c k : ℕ) → k < n → k ≢ i → channel_in n (with_pixel_in n bytes i q) k c ≡ channel_in n bytes k c
  unfolding with_pixel_in
  stays c k lk other =
      get_or-set_other blue (3 * n + i) _ q.a 0 (off 3 _ refl)
      ∙ get_or-set_other green (2 * n + i) _ q.b 0 (off 2 _ refl)
      ∙ get_or-set_other red (n + i) _ q.g 0 (off 1 _ (omega arith))
      ∙ get_or-set_other bytes i _ q.r 0 (off 0 _ (omega arith))
    where
      off : (d p : ℕ) → p ≡ d * n + i → c * n + k ≢ p
      off d p at e = other (sym (remainder n c k lk) ∙ ap (λ (j : ℕ). j % n) (e ∙ at) ∙ remainder n d i l)

  -- this one is written
  stored : (c : ℕ) → c < 4 → (f : ℕ → ℕ) → q ≡ pixel f → channel_in n (with_pixel_in n bytes i q) i c ≡ f c
  unfolding with_pixel_in
  stored zero lc f e =
      ap (line_of (set blue (3 * n + i) q.a)) {x = 0 * n + i} {y = i} (omega arith)
      ∙ get_or-set_other blue (3 * n + i) i q.a 0 (λ x. omega arith)
      ∙ get_or-set_other green (2 * n + i) i q.b 0 (λ x. omega arith)
      ∙ get_or-set_other red (n + i) i q.g 0 (λ x. omega arith)
      ∙ get_or-set_same bytes i q.r 0 (omega arith)
      ∙ ap (λ (p : Pixel). p.r) e
  stored (suc zero) lc f e =
      ap (line_of (set blue (3 * n + i) q.a)) {x = 1 * n + i} {y = n + i} (omega arith)
      ∙ get_or-set_other blue (3 * n + i) (n + i) q.a 0 (λ x. omega arith)
      ∙ get_or-set_other green (2 * n + i) (n + i) q.b 0 (λ x. omega arith)
      ∙ get_or-set_same red (n + i) q.g 0 (simp length-set (omega arith))
      ∙ ap (λ (p : Pixel). p.g) e
  stored (suc (suc zero)) lc f e =
      get_or-set_other blue (3 * n + i) (2 * n + i) q.a 0 (λ x. omega arith) ∙ get_or-set_same green (2 * n + i) q.b 0 (simp length-set (omega arith)) ∙ ap (λ (p : Pixel). p.b) e
  stored (suc (suc (suc zero))) lc f e = get_or-set_same blue (3 * n + i) q.a 0 (simp length-set (omega arith)) ∙ ap (λ (p : Pixel). p.a) e
  stored (suc (suc (suc (suc c)))) lc f e = absurd (omega arith)

-- the first i of n pixels are f's, and the others are as they were
pub record Laying (n : ℕ) (f : ℕ → ℕ → ℕ) (old new : List ℕ) (i : ℕ) : Type 0 where
  pub count : i ≤ n
  pub whole : length old ≡ 4 * n
  pub same : length new ≡ length old
  pub done : (c k : ℕ) → c < 4 → k < i → channel_in n new k c ≡ f k c
  pub rest : (c k : ℕ) → i ≤ k → k < n → channel_in n new k c ≡ channel_in n old k c

module _ {n : ℕ} {f : ℕ → ℕ → ℕ} {old : List ℕ} where
  pub begins : length old ≡ 4 * n → Laying n f old old 0
  begins e = record { count = omega arith; whole = e; same = refl; done = λ c k lc l. absurd (omega arith); rest = λ c k _ _. refl }

  module _ {new : List ℕ} {i : ℕ} (p : Laying n f old new i) where
    -- the pixel that is next is as it was
    pub next : i < n → pixel_in n new i ≡ pixel_in n old i
    next l = rw (p.rest 0 i (omega arith) l, p.rest 1 i (omega arith) l, p.rest 2 i (omega arith) l, p.rest 3 i (omega arith) l)

    -- it is written
    pub turn : {z : List ℕ} (q : Pixel) → i < n → z ≡ with_pixel_in n new i q → q ≡ pixel (f i) → Laying n f old z (i + 1)
    turn {z} q l ez eq =
        rw ez
        (record {
          count = omega arith;
          whole = p.whole;
          same = as_long n new i q ∙ p.same;
          done = λ c k lc lk. by c k lc lk (eqb k i) refl;
          rest = λ c k lo lk. stays n new long i l q c k lk (λ e. omega arith) ∙ p.rest c k (omega arith) lk;
        })
      where
        long : length new ≡ 4 * n
        long = p.same ∙ p.whole

        by : (c k : ℕ) → c < 4 → k < i + 1 → (b : Bool) → eqb k i ≡ b → channel_in n (with_pixel_in n new i q) k c ≡ f k c
        by c k lc lk true t = let e = eqb-true k i t in rw e (stored n new long i l q c lc (f i) eq)
        by c k lc lk false t = let ne = eqb-false k i t in stays n new long i l q c k (omega arith) ne ∙ p.done c k lc (omega arith)

    -- all are written
    pub ends : (w h : ℕ) (F : ℕ → Plane) → i ≡ n → n ≡ w * h → ((k c : ℕ) → k < w * h → f k c ≡ F c (k % w) (k / w)) → new ≡ painted_planes w h F
    unfolding plane_of
    ends w h F e is same =
        planes_ext w h F new (p.same ∙ p.whole ∙ ap (λ (k : ℕ). 4 * k) is)
        (λ c x y lc lx ly.
        let k = y * w + x in
        let inside : k < h * w = pixel_fits w h x y lx ly in
        let area : h * w ≡ n = mul_comm h w ∙ sym is in
        ap (λ (m : ℕ). line_of new (c * m + k)) area ∙ p.done c k lc (omega arith) ∙ same k c (omega arith) ∙ ap₂ (F c) (remainder w y x lx) (quotient w y x lx))
