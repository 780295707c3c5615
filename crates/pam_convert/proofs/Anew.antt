-- Laws of blocks of bytes made anew: the words of one, its products, and one block after another.
use mathlib.Core.Path.{◌≡◌, refl, sym, ap, ap₂, ◌∙◌}
use mathlib.Core.Bool.{Bool, true, false, cond}
use mathlib.Core.List.{List, [], ◌++◌, append-nil}
use mathlib.Core.Logic.{⊎_elim}
use Prim.Native.Nat.{ℕ, zero, suc, ◌+◌, ◌-◌, ◌*◌, ◌/◌, ◌%◌, ◌≤◌, ◌<◌}
use native.Mathlib.Nat.{zero-add}
use native.Mathlib.Omega.{arith}
use lib.Dec.{eqb}
use lib.ListN.{length, get_or, take, drop, length-append, length-take, length-drop, get_or-append}
use lib.Seq.{get_or-take, get_or-drop, get_or-append-add, take_at, drop_at, drop-length, length-take-le}
use borrow.Author.Tests.{eqb-true}
use borrow.Rule.Slice.PartMut.{put_mid}
use Rattle.picture.specs.Build.{build}
use Rattle.picture.specs.Planes.{bytes_of, painted}
use Rattle.picture.specs.declared.Pixel.{Pixel}
use Rattle.picture.proofs.Build.{length_build, get_or-build, build_ext, build_same}
use Rattle.picture.proofs.Spans.{le_or_lt}
use Rattle.pixels.specs.Pixels.{pixel_at, packed}
use Rattle.pixels.specs.Channels.{exceeds, premultiply}
use Rattle.pixels.proofs.Painting.{chan_here}
use Rattle.grading.proofs.Scanned.{below_alpha}
use Rattle.counting.specs.Words.{unpacked, byte_in}
use Rattle.counting.proofs.Packed.{Byted, Bytes, unpacks, unpacks_at}
use Rattle.unmultiply.specs.Outward.{outward}
use Rattle.unmultiply.proofs.Outward.{outward_byte}
use Rattle.pam_convert.specs.Straight.{recoloured_channel, recoloured, anew_at, factor_at, new_pixel, new_word, new_at}
use Rattle.pam_convert.specs.Needs.{Fit}
use Rattle.pam_convert.proofs.Straight.{premultiply_opaque}

-- a list by its rule, in two parts
build_append : (a b : ℕ) (f : ℕ → ℕ) → build (a + b) f ≡ build a f ++ build b (λ i. f (a + i))
build_append a b f =
    sym (build_ext (a + b) f (build a f ++ build b (λ i. f (a + i))) (length-append (build a f) _ ∙ rw (length_build a f, length_build b (λ i. f (a + i)))) at_each)
  where
    at_each : (i : ℕ) → i < a + b → get_or (build a f ++ build b (λ i. f (a + i))) i 0 ≡ f i
    at_each i l =
        ⊎_elim
        (λ (later : a ≤ i).
        let m = i - a in
        let here : i ≡ a + m = omega arith in
        rw here (ap (λ (n : ℕ). get_or (build a f ++ build b (λ i. f (a + i))) (n + m) 0) (sym (length_build a f)) ∙ get_or-append-add (build a f) (build b (λ i. f (a + i))) m 0 ∙ get_or-build b (λ i. f (a + i)) m (omega arith)))
        (λ (early : i < a). get_or-append (build a f) (build b (λ i. f (a + i))) 0 i (omega (arith, length_build a f)) ∙ get_or-build a f i early)
        (le_or_lt a i)

-- ---- a pixel's channels
abbrev channel_of : Pixel → ℕ → ℕ
channel_of p zero = p.r
channel_of p (suc zero) = p.g
channel_of p (suc (suc zero)) = p.b
channel_of p (suc (suc (suc c))) = p.a

byte_of : (p : Pixel) (c : ℕ) → c < 4 → Byted p → byte_in (packed p) c ≡ channel_of p c
byte_of p zero l y = ap (λ (q : Pixel). q.r) (unpacks p y)
byte_of p (suc zero) l y = ap (λ (q : Pixel). q.g) (unpacks p y)
byte_of p (suc (suc zero)) l y = ap (λ (q : Pixel). q.b) (unpacks p y)
byte_of p (suc (suc (suc c))) l y = ap (λ (q : Pixel). q.a) (unpacks p y)

-- what is made of pixel i, channel by channel
abbrev channel_at : Bool → List ℕ → ℕ → ℕ → ℕ
channel_at true bytes i c = recoloured_channel outward c (get_or bytes (4 * i + c) 0) (get_or bytes (4 * i + 3) 0)
channel_at false bytes i c = cond (eqb c 3) 255 (get_or bytes (4 * i + 3) 0)

at_channel : (out : Bool) (bytes : List ℕ) (i c : ℕ) → c < 4 → channel_of (new_pixel out (pixel_at bytes i)) c ≡ channel_at out bytes i c
at_channel true bytes i zero l = refl
at_channel true bytes i (suc zero) l = refl
at_channel true bytes i (suc (suc zero)) l = refl
at_channel true bytes i (suc (suc (suc zero))) l = refl
at_channel true bytes i (suc (suc (suc (suc c)))) l = absurd (omega arith)
at_channel false bytes i zero l = refl
at_channel false bytes i (suc zero) l = refl
at_channel false bytes i (suc (suc zero)) l = refl
at_channel false bytes i (suc (suc (suc zero))) l = refl
at_channel false bytes i (suc (suc (suc (suc c)))) l = absurd (omega arith)

-- ---- the words of a block: its pixels packed, each made anew, and unpacked
module _ (out : Bool) (bytes : List ℕ) (fits : Bytes bytes) (fit : Fit out bytes) where
  new_byted : (i : ℕ) → 4 * i + 4 ≤ length bytes → Byted (new_pixel out (pixel_at bytes i))
  new_byted i l = by out refl
    where
      by : (o : Bool) → out ≡ o → Byted (new_pixel o (pixel_at bytes i))
      by true e =
          let low = below_alpha (pixel_at bytes i) (fit e i l) in
          record {
            r_fits = omega (arith, outward_byte (get_or bytes (4 * i + 0) 0) (get_or bytes (4 * i + 3) 0) low.0);
            g_fits = omega (arith, outward_byte (get_or bytes (4 * i + 1) 0) (get_or bytes (4 * i + 3) 0) low.1);
            b_fits = omega (arith, outward_byte (get_or bytes (4 * i + 2) 0) (get_or bytes (4 * i + 3) 0) low.2);
            a_fits = fits (4 * i + 3);
          }
      by false e = record { r_fits = fits (4 * i + 3); g_fits = fits (4 * i + 3); b_fits = fits (4 * i + 3); a_fits = omega arith }

  -- the word of pixel i, and its bytes
  new_word_lem : (i : ℕ) → new_word out (packed (pixel_at bytes i)) ≡ packed (new_pixel out (pixel_at bytes i))
  unfolding new_word
  new_word_lem i = ap (λ (p : Pixel). packed (new_pixel out p)) (unpacks_at bytes fits i)

  new_byte : (i c : ℕ) → 4 * i + 4 ≤ length bytes → c < 4 → byte_in (packed (new_pixel out (pixel_at bytes i))) c ≡ channel_of (new_pixel out (pixel_at bytes i)) c
  new_byte i c l m = byte_of (new_pixel out (pixel_at bytes i)) c m (new_byted i l)

  -- the packed pixels
  module _ (n : ℕ) (words : List ℕ) (long : length bytes ≡ 4 * n) (w : words ≡ build n (λ k. packed (pixel_at bytes (0 + k)))) where
    word_at : (k : ℕ) → k < n → get_or words k 0 ≡ packed (pixel_at bytes k)
    word_at k l = ap (λ (l : List ℕ). get_or l k 0) w ∙ get_or-build n (λ k. packed (pixel_at bytes (0 + k))) k l ∙ ap (λ (i : ℕ). packed (pixel_at bytes i)) (zero-add k)

    many : length words ≡ n
    many = ap length w ∙ length_build n (λ k. packed (pixel_at bytes (0 + k)))

    -- none of them fails
    pub packed_fit : out ≡ true → (k : ℕ) → k < length words → exceeds (unpacked (get_or words k 0)) ≡ false
    packed_fit o k l =
        let within : k < n = omega (arith, many) in
        ap (λ (v : ℕ). exceeds (unpacked v)) (word_at k within) ∙ ap exceeds (unpacks_at bytes fits k) ∙ fit o k (omega arith)

    -- and they are made anew
    pub new_bytes : (m : ℕ) (news : List ℕ) → m ≡ 4 * n → news ≡ build (length words) (λ k. new_word out (get_or words k 0)) →
        build m (λ j. byte_in (get_or news (j / 4) 0) (j % 4)) ≡ build m (new_at out bytes)
    new_bytes m news size e = build_same m _ _ here
      where
        word : (k : ℕ) → k < n → get_or news k 0 ≡ packed (new_pixel out (pixel_at bytes k))
        word k l =
            ap (λ (l : List ℕ). get_or l k 0) e
            ∙ get_or-build (length words) (λ k. new_word out (get_or words k 0)) k (omega (arith, many))
            ∙ ap (new_word out) (word_at k l)
            ∙ new_word_lem k

        as_at : (o : Bool) (j : ℕ) → channel_at o bytes (j / 4) (j % 4) ≡ new_at o bytes j
        as_at true j = refl
        as_at false j = refl

        here : (j : ℕ) → j < m → byte_in (get_or news (j / 4) 0) (j % 4) ≡ new_at out bytes j
        here j l =
            ap (λ (v : ℕ). byte_in v (j % 4)) (word (j / 4) (omega arith))
            ∙ new_byte (j / 4) (j % 4) (omega arith) (omega arith)
            ∙ at_channel out bytes (j / 4) (j % 4) (omega arith)
            ∙ as_at out j

-- a product with the factor is the channel inward
product : (bytes : List ℕ) (j : ℕ) → premultiply (get_or bytes j 0) (factor_at bytes j) ≡ anew_at premultiply bytes j
product bytes j = by (eqb (j % 4) 3) refl
  where
    by : (b : Bool) → eqb (j % 4) 3 ≡ b → premultiply (get_or bytes j 0) (factor_at bytes j) ≡ anew_at premultiply bytes j
    by true e = let here : 4 * (j / 4) + 3 ≡ j = omega (arith, eqb-true (j % 4) 3 e) in rw (e, here) (premultiply_opaque (get_or bytes j 0))
    by false e = let here : 4 * (j / 4) + j % 4 ≡ j = omega arith in rw (e, here)

pub products : (n : ℕ) (bytes : List ℕ) → build n (λ j. premultiply (get_or bytes j 0) (get_or (build n (factor_at bytes)) j 0)) ≡ build n (anew_at premultiply bytes)
products n bytes = build_same n _ _ (λ j l. ap (premultiply (get_or bytes j 0)) (get_or-build n (factor_at bytes) j l) ∙ product bytes j)

-- all of it is the picture made anew
pub all_anew : (f : ℕ → ℕ → ℕ) (w h : ℕ) (bytes : List ℕ) → build (bytes_of w h) (anew_at f bytes) ≡ recoloured f w h bytes
unfolding recoloured painted
all_anew f w h bytes = build_same (bytes_of w h) _ _ (λ j l. sym (rw (chan_here bytes w (j % 4) (j / 4), chan_here bytes w 3 (j / 4))))

-- what as many bytes as a picture has are made of it
pub anew_made : (f : ℕ → ℕ → ℕ) (w h : ℕ) (from : List ℕ) {n : ℕ} {made : List ℕ} → n ≡ bytes_of w h → made ≡ build n (anew_at f from) → made ≡ recoloured f w h from
anew_made f w h from size e = e ∙ ap (λ (k : ℕ). build k (anew_at f from)) size ∙ all_anew f w h from

-- ---- a part of the bytes, from pixel to pixel
module _ (bytes : List ℕ) (a k : ℕ) (before : a % 4 ≡ 0) where
  part_at : (i c : ℕ) → c < 4 → 4 * i + c < k → get_or (take k (drop a bytes)) (4 * i + c) 0 ≡ get_or bytes (4 * (a / 4 + i) + c) 0
  part_at i c m l =
      let place : a + (4 * i + c) ≡ 4 * (a / 4 + i) + c = omega arith in
      get_or-take k (drop a bytes) (4 * i + c) 0 l ∙ get_or-drop a bytes (4 * i + c) 0 ∙ ap (λ (n : ℕ). get_or bytes n 0) place

  part_pixel : (i : ℕ) → 4 * i + 4 ≤ k → pixel_at (take k (drop a bytes)) i ≡ pixel_at bytes (a / 4 + i)
  part_pixel i l = rw (part_at i 0 (omega arith) (omega arith), part_at i 1 (omega arith) (omega arith), part_at i 2 (omega arith) (omega arith), part_at i 3 (omega arith) (omega arith))

  -- none of its pixels fails where none of all does
  pub part_fits : (out : Bool) → a + k ≤ length bytes → Fit out bytes → Fit out (take k (drop a bytes))
  part_fits out room fit o i l =
      let within : 4 * i + 4 ≤ k = omega (arith, length-take k (drop a bytes)) in
      ap exceeds (part_pixel i within) ∙ fit o (a / 4 + i) (omega arith)

  -- the bytes made anew before it, and it
  pub block : (f : ℕ → ℕ → ℕ) → k % 4 ≡ 0 → build a (anew_at f bytes) ++ build k (anew_at f (take k (drop a bytes))) ≡ build (a + k) (anew_at f bytes)
  block f within = ap (λ (l : List ℕ). build a (anew_at f bytes) ++ l) (build_same k _ _ here) ∙ sym (build_append a k (anew_at f bytes))
    where
      here : (j : ℕ) → j < k → anew_at f (take k (drop a bytes)) j ≡ anew_at f bytes (a + j)
      here j l =
          let channel : (a + j) % 4 ≡ j % 4 = omega arith in
          let pixel : (a + j) / 4 ≡ a / 4 + j / 4 = omega arith in
          rw (channel, pixel, part_at (j / 4) (j % 4) (omega arith) (omega arith), part_at (j / 4) 3 (omega arith) (omega arith))

-- ---- the first a bytes, and then the rest
module _ (f : ℕ → ℕ → ℕ) (from to first rest : List ℕ) (a : ℕ) (within : a ≤ length to) (before : a % 4 ≡ 0) (pixels : length to % 4 ≡ 0) (same : length from ≡ length to) where
  abbrev line : List ℕ
  line = first ++ drop a to

  front : first ≡ build (length (take a to)) (anew_at f (take a from)) → first ≡ build a (anew_at f from)
  unfolding build
  front e = e ∙ ap (λ (n : ℕ). build n (anew_at f (take a from))) (length-take-le a to within) ∙ block from 0 a refl f before ∙ ap (λ (n : ℕ). build n (anew_at f from)) (zero-add a)

  pub joined : first ≡ build (length (take a to)) (anew_at f (take a from)) → rest ≡ build (length (take (length line - a) (drop a line))) (anew_at f (take (length from - a) (drop a from))) →
      put_mid a (length line - a) line rest ≡ build (length to) (anew_at f from)
  joined e g =
      let m = length to - a in
      let first_is = front e in
      let long : length first ≡ a = ap length first_is ∙ length_build a (anew_at f from) in
      let after = drop_at first (drop a to) a long in
      let left : length line - a ≡ m = simp (length-append, length-drop) (omega (arith, long)) in
      let size : length (take m (drop a to)) ≡ m = simp (length-take, length-drop) (omega arith) in
      let nothing : drop m (drop a to) ≡ [] = ap (λ (n : ℕ). drop n (drop a to)) (sym (length-drop a to)) ∙ drop-length (drop a to) in
      let all : a + m ≡ length to = omega arith in
      let rest-is : rest ≡ build m (anew_at f (take m (drop a from))) =
      g ∙ ap₂ (λ (n k : ℕ). build n (anew_at f (take k (drop a from)))) (ap₂ (λ (n : ℕ) (l : List ℕ). length (take n l)) left after ∙ size) (ap (λ (n : ℕ). n - a) same) in
      ap₂ (λ (l r : List ℕ). l ++ (rest ++ r)) (take_at first (drop a to) a long) (ap₂ (λ (n : ℕ) (l : List ℕ). drop n l) left after ∙ nothing)
      ∙ ap (λ (r : List ℕ). first ++ r) (append-nil rest)
      ∙ ap₂ (λ (l r : List ℕ). l ++ r) first_is rest-is
      ∙ block from a m before f (omega arith)
      ∙ ap (λ (n : ℕ). build n (anew_at f from)) all
