-- What a view's checks let through is a whole picture, and the edge rule reads a pixel that it holds.
use mathlib.Core.Path.{◌≡◌, ◌∙◌, sym}
use mathlib.Core.Bool.{true, false}
use mathlib.Core.List.{List}
use Prim.Native.Nat.{ℕ}
use native.Mathlib.Omega.{arith}
use lib.Dec.{lit<}
use lib.IntN.{ℤ}
use lib.ListN.{length}
use mir.Syntax.{w32}
use mir.Val.{SFits, to_z, of_z}
use mir.ValLaws.{to_z-of_z}
use borrow.Author.Tests.{eq-eqb, ne_eqb}
use Rattle.picture.specs.Modes.{mode_of}
use Rattle.picture.specs.declared.EdgeMode.{EdgeMode}
use Rattle.picture.specs.Refusal.{number_of, wrong_sides, wrong_length}
use Rattle.picture.specs.declared.checks.Refusal.{Refusal}
use Rattle.picture.specs.Sizes.{Pictured}
use Rattle.picture.proofs.Passed.{passed}
use Rattle.picture.proofs.Sizes.{whole}
use Rattle.edges.specs.Edges.{Below}
use Rattle.edges.specs.Whole.{place_of}
use Rattle.std.specs.Prelude.{Option, Some, None, Result, is_err}
use Rattle.edges.proofs.Whole.{whole_below}
use Rattle.grading.specs.Sampling.{view_refusal, accepts, Held, sampled_pixel, sampled}
use Rattle.picture.proofs.Refused.{refusal_some, refusal_none}
use Rattle.grading.proofs.Whole.{inside}

module _ (bytes : List ℕ) (w h edge : ℕ) (r : Result Unit Refusal) (e : number_of r ≡ view_refusal bytes w h edge) where
  pub refused : is_err r ≡ true → accepts bytes w h edge ≡ false
  refused t = ne_eqb _ 0 (λ z. refusal_some r t (e ∙ z))

  pub accepted : is_err r ≡ false → accepts bytes w h edge ≡ true
  accepted f = eq-eqb _ 0 (sym e ∙ refusal_none r f)

  -- checks 1 and 2 let it through
  passes : is_err r ≡ false → (wrong_sides w h ≡ false) × (wrong_length (length bytes) w h ≡ false)
  unfolding view_refusal
  passes f =
      let sides = passed _ _ (lit< tt) (sym (refusal_none r f) ∙ e) in
      let exact = passed _ _ (lit< tt) sides.1 in
      (sides.0, exact.0)

  pub accepted_sides : is_err r ≡ false → wrong_sides w h ≡ false
  accepted_sides f = (passes f).0

  pub accepted_whole : is_err r ≡ false → Pictured w h bytes
  accepted_whole f = whole bytes w h (passes f).0 (passes f).1

-- a column and a row inside the picture are a pixel that it holds
held : {bytes : List ℕ} {w h : ℕ} (column row : Option ℕ) → Pictured w h bytes → Below column w → Below row h → Held bytes w column row
held (Some x) (Some y) p a b = omega (arith, inside x y p a b, p.exact)
held (Some x) None p a b = tt
held None row p a b = tt

-- a coordinate that is passed on is read back from its bits
abbrev pub again : ℤ → ℤ
again z = to_z w32 (of_z w32 z)

module _ (bytes : List ℕ) (w h : ℕ) (mode : EdgeMode) (x y : ℤ) (x_Fits : SFits w32 x) (y-fits : SFits w32 y) {column row : Option ℕ}
    (across : column ≡ place_of mode w (again x)) (down : row ≡ place_of mode h (again y)) where
  pub extended_held : Pictured w h bytes → Held bytes w column row
  extended_held p =
      held column row p (rw across (whole_below mode w (again x) p.sized.w_low)) (rw down (whole_below mode h (again y) p.sized.h_low))

  pub extended_sampled : (edge : ℕ) → mode ≡ mode_of edge → accepts bytes w h edge ≡ true → sampled_pixel bytes w column row ≡ sampled bytes w h edge x y
  unfolding sampled
  extended_sampled edge m t = rw (t, across, to_z-of_z w32 x x_Fits, down, to_z-of_z w32 y y-fits, m)
