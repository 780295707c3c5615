-- Opaque pixels in front: none yet, and a block more; and a word that is of an opaque pixel.
use mathlib.Core.Path.{◌≡◌, refl, sym, ap, ◌∙◌}
use mathlib.Core.List.{List}
use mathlib.Core.Logic.{⊎_elim}
use Prim.Native.Nat.{ℕ, ◌+◌, ◌-◌, ◌*◌, ◌/◌, ◌%◌, ◌≤◌, ◌<◌}
use native.Mathlib.Nat.{zero-add}
use native.Mathlib.Omega.{arith}
use lib.ListN.{length, get_or, take, drop, length-take, length-drop}
use lib.Seq.{get_or-take, get_or-drop, length-take-le, take-add}
use Rattle.picture.specs.Build.{build}
use Rattle.picture.specs.Planes.{laid}
use Rattle.picture.specs.declared.Pixel.{Pixel}
use Rattle.picture.proofs.Build.{length_build, get_or-build}
use Rattle.picture.proofs.Spans.{le_or_lt}
use Rattle.pixels.specs.Pixels.{pixel_at, packed}
use Rattle.counting.proofs.Packed.{Byted, Bytes}
use Rattle.pam_format.specs.Header.{written_at}
use Rattle.pam_format.proofs.Lines.{Begun, more}
use Rattle.opaque.specs.Front.{Opaque, Front}

-- a word not below that of alpha 255 alone has it
full : (p : Pixel) → Byted p → 4278190080 ≤ packed p → p.a ≡ 255
full p y l = omega (arith, y.r_fits, y.g_fits, y.b_fits, y.a_fits)

-- n pixels, one in each word
pub opaque_words : (bytes words : List ℕ) (n : ℕ) → Bytes bytes → length bytes ≡ 4 * n → words ≡ build n (λ k. packed (pixel_at bytes (0 + k))) → ((k : ℕ) → k < length words → 4278190080 ≤ get_or words k 0) →
    Opaque bytes (length bytes)
opaque_words bytes words n fit long w low i l =
    let here : get_or words i 0 ≡ packed (pixel_at bytes i) =
    ap (λ (l : List ℕ). get_or l i 0) w ∙ get_or-build n (λ k. packed (pixel_at bytes (0 + k))) i (omega arith) ∙ ap (λ (k : ℕ). packed (pixel_at bytes k)) (zero-add i) in
    let many : length words ≡ n = ap length w ∙ length_build n (λ k. packed (pixel_at bytes (0 + k))) in
    full (pixel_at bytes i) (record { r_fits = fit (4 * i + 0); g_fits = fit (4 * i + 1); b_fits = fit (4 * i + 2); a_fits = fit (4 * i + 3) })
    (omega (arith, here, low i (omega (arith, many, long))))

pub front_none : (from old : List ℕ) → Front from old 0 old
unfolding laid
front_none from old = record { inside = omega arith; pixels = refl; opaque = λ i l. absurd (omega arith); copied = refl }

module _ {from old line : List ℕ} {at : ℕ} (f : Front from old at line) (n : ℕ) (room : at + n ≤ length from) where
  abbrev text : List ℕ
  text = take n (drop at from)

  size : length text ≡ n
  size = simp (length-take, length-drop) (omega (arith, room))

  pub front_more : {new : List ℕ} → n % 4 ≡ 0 → Opaque text n → new ≡ written_at at text line → Front from old (at + n) new
  front_more whole block put =
      let begun : Begun (take at from) old at line = record { so = f.copied; place = sym (length-take-le at from f.inside) } in
      record {
        inside = room;
        pixels = omega (arith, f.pixels);
        opaque = λ i l. ⊎_elim (λ (later : at ≤ 4 * i). in_block i l later) (λ (early : 4 * i < at). f.opaque i (omega (arith, f.pixels))) (le_or_lt at (4 * i));
        copied = (more text begun (ap (λ (k : ℕ). at + k) (sym size)) put).so ∙ ap (λ (t : List ℕ). laid t old) (sym (take-add at n from));
      }
    where
      in_block : (i : ℕ) → 4 * i + 4 ≤ at + n → at ≤ 4 * i → get_or from (4 * i + 3) 0 ≡ 255
      in_block i l later =
          let j = i - at / 4 in
          let place : at + (4 * j + 3) ≡ 4 * i + 3 = omega (arith, f.pixels) in
          ap (λ (k : ℕ). get_or from k 0) (sym place)
          ∙ sym (get_or-take n (drop at from) (4 * j + 3) 0 (omega (arith, f.pixels)) ∙ get_or-drop at from (4 * j + 3) 0)
          ∙ block j (omega (arith, f.pixels))
