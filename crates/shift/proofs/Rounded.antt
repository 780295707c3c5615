-- Offsets as they come from rounding: one number of each is 0, and held to a side they move a plane as they did.
use mathlib.Core.Path.{◌≡◌, ap, fun_ext, ◌∙◌}
use mathlib.Core.Bool.{Bool, true, false}
use mathlib.Core.List.{List}
use mathlib.Core.Logic.{⊎_elim}
use Prim.Native.Nat.{ℕ, ◌*◌, ◌<◌}
use native.Mathlib.Nat.{eq-zero-or-pos}
use native.Mathlib.Omega.{arith}
use lib.Ieee.{Float}
use lib.ListN.{length}
use borrow.Author.Tests.{not-false}
use Rattle.picture.specs.Planes.{Line, Plane}
use Rattle.picture.proofs.Tests.{neither}
use Rattle.binary32.specs.Ranges.{finite}
use Rattle.binary32.specs.Round.{round_half_up, signed_steps, minus_sign, whole_offset, round_offset}
use Rattle.binary32.specs.declared.Offset.{Offset}
use Rattle.binary32.proofs.Offsets.{held, round_offset_held}
use Rattle.shift.specs.Shift.{moved, shifted}
use Rattle.shift.specs.Bytes.{plane_shifted, OneWay, in_bytes, elements_shifted}
use Rattle.shift.specs.Outcome.{wrong_offsets}
use Rattle.shift.proofs.Moved.{moved_as}

-- check 7 lets finite offsets through
pub both_finite : (dx dy : Float) → wrong_offsets dx dy ≡ false → (finite dx ≡ true) × (finite dy ≡ true)
unfolding wrong_offsets
both_finite dx dy e = let n = neither _ _ e in (not-false _ n.0, not-false _ n.1)

steps_one_way : (s : Bool) (n : ℕ) → OneWay (signed_steps s n)
steps_one_way false n = omega arith
steps_one_way true n = omega arith

pub one_way : (x : Float) → OneWay (whole_offset x)
unfolding whole_offset
one_way x = steps_one_way (minus_sign x) (round_half_up x)

-- what the code rounds and holds to a side t
pub rounded_held : (s t : ℕ) (x : Float) (d : Offset) → t ≡ s → finite x ≡ true → d ≡ round_offset t x → d ≡ held s (whole_offset x)
rounded_held s t x d e f r = r ∙ ap (λ (k : ℕ). round_offset k x) e ∙ round_offset_held s x f

moved_held : (d : Offset) (s : ℕ) (line : Line) (x : ℕ) → OneWay d → x < s → moved (held s d) s line x ≡ moved d s line x
moved_held d s line x o l = moved_as d s x (held s d) s x (λ i. i) line (λ m. omega arith) (λ i e m. (omega arith, m)) (λ m. omega arith)

pub held_shifted : (dx dy : Offset) (w h : ℕ) (p : Plane) (x y : ℕ) → OneWay dx → OneWay dy → x < w → y < h → shifted (held w dx) (held h dy) w h p x y ≡ shifted dx dy w h p x y
unfolding shifted
held_shifted dx dy w h p x y o u lx ly = moved_held dx w _ x o lx ∙ ap (λ (line : Line). moved dx w line x) (fun_ext (λ i. moved_held dy h _ y u ly))

-- counted in bytes, one of its numbers is 0 still
pub one_way_bytes : (lanes : ℕ) (d : Offset) → OneWay d → OneWay (in_bytes lanes d)
one_way_bytes lanes d o =
    ⊎_elim (λ e. rw e (omega arith)) (λ l. let e : d.minus ≡ 0 = omega arith in rw e (omega arith)) (eq-zero-or-pos d.plus)

-- the sides and offsets that the code works out: v by u elements, and offsets rounded and held to them
module _ (lanes v u w h : ℕ) (v-is : v ≡ w) (u-is : u ≡ h) (bytes : List ℕ) where
  pub elements_length : length bytes ≡ h * (lanes * w) → length bytes ≡ u * (lanes * v)
  elements_length e = rw (v-is, u-is) e

  pub elements_moved : (across down : Offset) (dx dy : Float) → across ≡ round_offset v dx → down ≡ round_offset u dy →
      plane_shifted (in_bytes lanes across) down (lanes * v) u bytes ≡ elements_shifted lanes dx dy w h bytes
  elements_moved across down dx dy e f = rw (e, f, v-is, u-is)
