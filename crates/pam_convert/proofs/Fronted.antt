-- Opaque pixels in front are as they are made anew; and the rest after them.
use mathlib.Core.Path.{◌≡◌, refl, sym, ap, ◌∙◌}
use mathlib.Core.Bool.{Bool, true, false}
use mathlib.Core.List.{List, ◌++◌}
use Prim.Native.Nat.{ℕ, ◌+◌, ◌-◌, ◌*◌, ◌/◌, ◌%◌, ◌<◌}
use native.Mathlib.Omega.{arith}
use lib.Dec.{eqb}
use lib.ListN.{length, get_or, take, drop, length-append, length-take, length-drop}
use lib.Seq.{get_or-take, length-take-le}
use borrow.Author.Tests.{eqb-true}
use borrow.Rule.Slice.PartMut.{put_mid}
use Rattle.picture.specs.Build.{build}
use Rattle.picture.specs.Planes.{bytes_of, laid}
use Rattle.picture.proofs.Build.{build_ext}
use Rattle.opaque.specs.Front.{Front}
use Rattle.pam_convert.specs.Straight.{recoloured, anew_at, rule}
use Rattle.pam_convert.specs.Needs.{Fit}
use Rattle.pam_convert.proofs.Straight.{rule_opaque}
use Rattle.pam_convert.proofs.Anew.{part_fits, joined, all_anew}

module _ (out : Bool) {from to mid : List ℕ} {n : ℕ} (f : Front from to n mid) (pixels : length to % 4 ≡ 0) (same : length from ≡ length to) where
  abbrev first : List ℕ
  first = take n from

  long : length first ≡ n
  long = length-take-le n from f.inside

  kept : (j : ℕ) → j < n → get_or first j 0 ≡ anew_at (rule out) first j
  kept j l = by (eqb (j % 4) 3) refl
    where
      by : (b : Bool) → eqb (j % 4) 3 ≡ b → get_or first j 0 ≡ anew_at (rule out) first j
      by true e = let here : 4 * (j / 4) + 3 ≡ j = omega (arith, eqb-true (j % 4) 3 e) in rw (e, here)
      by false e =
          let here : 4 * (j / 4) + j % 4 ≡ j = omega arith in
          let alpha : get_or first (4 * (j / 4) + 3) 0 ≡ 255 = get_or-take n from (4 * (j / 4) + 3) 0 (omega (arith, f.pixels)) ∙ f.opaque (j / 4) (omega (arith, f.pixels)) in
          rw (e, here, alpha) (sym (rule_opaque out (get_or first j 0)))

  line : mid ≡ first ++ drop n to
  unfolding laid
  line = f.copied ∙ ap (λ (k : ℕ). first ++ drop k to) long

  -- what is left to convert
  pub left : Fit out from →
      (length (take (length from - n) (drop n from)) ≡ length (take (length mid - n) (drop n mid))) ×
      (length (take (length mid - n) (drop n mid)) % 4 ≡ 0) ×
      Fit out (take (length from - n) (drop n from))
  left fit =
      let all : length mid ≡ length to = ap length line ∙ simp (length-append, length-drop) (omega (arith, long, f.inside)) in (
        simp (length-take, length-drop) (omega (arith, all)),
        simp (length-take, length-drop) (omega (arith, all, f.pixels)),
        part_fits from n (length from - n) f.pixels out (omega (arith, f.inside)) fit,
      )

  -- with it, all
  pub front_anew : (rest : List ℕ) → rest ≡ build (length (take (length mid - n) (drop n mid))) (anew_at (rule out) (take (length from - n) (drop n from))) →
      put_mid n (length mid - n) mid rest ≡ build (length to) (anew_at (rule out) from)
  front_anew rest g =
      let copied : first ≡ build (length (take n to)) (anew_at (rule out) first) =
      build_ext n (anew_at (rule out) first) first long kept ∙ ap (λ (k : ℕ). build k (anew_at (rule out) first)) (sym (length-take-le n to (omega (arith, f.inside)))) in
      let made = g ∙ ap (λ (l : List ℕ). build (length (take (length l - n) (drop n l))) (anew_at (rule out) (take (length from - n) (drop n from)))) line in
      ap (λ (l : List ℕ). put_mid n (length l - n) l rest) line
      ∙ joined (rule out) from to first rest n (omega (arith, f.inside)) f.pixels pixels same copied made

  -- the same of a picture of w by h pixels
  pub fronted : (w h : ℕ) (rest : List ℕ) → length to ≡ bytes_of w h →
      rest ≡ build (length (take (length mid - n) (drop n mid))) (anew_at (rule out) (take (length from - n) (drop n from))) →
      put_mid n (length mid - n) mid rest ≡ recoloured (rule out) w h from
  fronted w h rest size g = front_anew rest g ∙ ap (λ (k : ℕ). build k (anew_at (rule out) from)) size ∙ all_anew (rule out) w h from
