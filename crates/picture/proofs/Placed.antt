-- Laws of a run of bytes that is written: by its rule at each index.
use mathlib.Core.Path.{◌≡◌, refl, sym, ap, ◌∙◌}
use mathlib.Core.Bool.{Bool, true, false}
use mathlib.Core.List.{List}
use Prim.Native.Nat.{ℕ, ◌+◌, ◌-◌, ◌≤◌, ◌<◌}
use native.Mathlib.Omega.{arith}
use lib.Dec.{ltb}
use lib.ListN.{length, get_or}
use borrow.Author.Tests.{lt-ltb, le-ltb, ltb-true, ltb-false}
use Rattle.picture.specs.Planes.{Line}
use Rattle.picture.specs.Buffers.{line_of, placed_at, placed, copied}
use Rattle.picture.specs.Spans.{Run}
use Rattle.picture.proofs.Build.{length_build, get_or-build, build_ext}
use Rattle.picture.proofs.Spans.{span_at}

module _ (n to : ℕ) (line : Line) (bytes : List ℕ) where
  pub placed_before : (i : ℕ) → i < to → placed_at n to line bytes i ≡ line_of bytes i
  placed_before i l = rw (lt-ltb i to l)

  pub placed_inside : (i x : ℕ) → i ≡ to + x → x < n → placed_at n to line bytes i ≡ line x
  placed_inside i x e l = let s : i - to ≡ x = omega arith in rw (le-ltb i to (omega arith), lt-ltb i (to + n) (omega arith), s)

  pub placed_past : (i : ℕ) → to + n ≤ i → placed_at n to line bytes i ≡ line_of bytes i
  placed_past i l = rw (le-ltb i to (omega arith), le-ltb i (to + n) l)

  pub length_placed : length (placed n to line bytes) ≡ length bytes
  unfolding placed
  length_placed = length_build (length bytes) (placed_at n to line bytes)

  pub placed_at_lem : (i : ℕ) → i < length bytes → get_or (placed n to line bytes) i 0 ≡ placed_at n to line bytes i
  unfolding placed
  placed_at_lem i l = get_or-build (length bytes) (placed_at n to line bytes) i l

  -- a run that was written, and one that is there already
  pub run_placed : {new : List ℕ} → Run 0 bytes new to n line → new ≡ placed n to line bytes
  unfolding placed
  run_placed {new} s = build_ext (length bytes) _ new s.size (λ i _. by_low i (ltb i to) refl)
    where
      by_high : (i : ℕ) → to ≤ i → (t : Bool) → ltb i (to + n) ≡ t → line_of new i ≡ placed_at n to line bytes i
      by_high i l true t =
          let m = ltb-true i (to + n) t in
          span_at s (i - to) (omega arith) (omega arith) (omega arith) ∙ sym (placed_inside i (i - to) (omega arith) (omega arith))
      by_high i l false t = let m = ltb-false i (to + n) t in s.above i m ∙ sym (placed_past i m)

      by_low : (i : ℕ) (t : Bool) → ltb i to ≡ t → line_of new i ≡ placed_at n to line bytes i
      by_low i true t = let l = ltb-true i to t in s.below i (omega arith) ∙ sym (placed_before i l)
      by_low i false t = by_high i (ltb-false i to t) (ltb i (to + n)) refl

  pub placed_same : ((x : ℕ) → x < n → line x ≡ line_of bytes (to + x)) → bytes ≡ placed n to line bytes
  placed_same h = run_placed (record { size = refl; inside = λ k _ l. sym (h k l); below = λ j l. refl; above = λ j l. refl })

-- a run that is copied onto itself
pub copied_still : (n a b : ℕ) (bytes : List ℕ) → a ≡ b → bytes ≡ copied n a b bytes
copied_still n a b bytes q = placed_same n b _ bytes (λ x _. ap (line_of bytes) (omega arith))
