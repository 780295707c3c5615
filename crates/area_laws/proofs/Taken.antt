-- Calls that are done: what the checks of `build` let through, and what it leaves; and an update of that.
use mathlib.Core.Path.{◌≡◌, refl, ◌∙◌, sym, ap, ap₂}
use mathlib.Core.Bool.{false}
use mathlib.Core.List.{List}
use Prim.Native.Nat.{ℕ, ◌+◌, ◌*◌, ◌/◌, ◌%◌, ◌<◌}
use native.Mathlib.Nat.{mul_comm}
use native.Mathlib.Omega.{arith}
use lib.ListN.{length, get_or, set}
use Rattle.picture.specs.Answer.{answered}
use Rattle.picture.specs.Planes.{laid}
use Rattle.picture.specs.Refusal.{first_of, wrong_sides, wrong_length}
use Rattle.picture.proofs.Answers.{done}
use Rattle.picture.proofs.Conditions.{each_passes, right_length}
use Rattle.picture.proofs.Settled.{read}
use Rattle.picture.proofs.Sizes.{full_sized}
use Rattle.area.specs.Area.{alpha_plane, top, built, updated}
use Rattle.area_updates.specs.Outcome.{wrong_place, update_outcome}
use Rattle.area.specs.Outcome.{short_table, build_checks, build_outcome}
use Rattle.area_laws.proofs.Changes.{alpha_there, alpha_set, alpha_other}
use Rattle.area_updates.proofs.Conditions.{right_place}
use Rattle.area.proofs.Conditions.{long_table}
use Rattle.area.proofs.Settle.{at_end}
use Rattle.area_laws.proofs.Tables.{built_length, afresh}

pub record BuildAccepted (p : List ℕ) (w h : ℕ) (table left : List ℕ) : Type 0 where
  pub sides : wrong_sides w h ≡ false
  pub exact : wrong_length (length p) w h ≡ false
  pub long : short_table (length table) w h ≡ false
  pub is : left ≡ laid (built w h (alpha_plane p w)) table

module _ (p : List ℕ) (w h : ℕ) (table : List ℕ) where
  pub build_accepted : (left : List ℕ) → answered 0 left ≡ build_outcome p w h table → BuildAccepted p w h table left
  unfolding build_outcome
  build_accepted left e =
      let checks = build_checks (length p) w h (length table) in
      let told = read (first_of checks) table (laid (built w h (alpha_plane p w)) table) 0 left e in
      let pass = (each_passes checks (omega arith, (omega arith, (omega arith, tt)))).0 told.number in
      record { sides = pass.0; exact = pass.1.0; long = pass.1.1.0; is = told.finished refl }

  -- and what they let through is done
  pub build_done : wrong_sides w h ≡ false → wrong_length (length p) w h ≡ false → short_table (length table) w h ≡ false →
      answered 0 (laid (built w h (alpha_plane p w)) table) ≡ build_outcome p w h table
  unfolding build_outcome
  build_done s e l =
      done (first_of (build_checks (length p) w h (length table))) table (laid (built w h (alpha_plane p w)) table)
      (sym ((each_passes (build_checks (length p) w h (length table)) (omega arith, (omega arith, (omega arith, tt)))).1 (s, (e, (l, tt)))))

-- the table of a picture, updated as one alpha of the picture changes: it is the table of the changed picture
module _ (p table : List ℕ) (w h place old new : ℕ) (sides : wrong_sides w h ≡ false) (exact : wrong_length (length p) w h ≡ false) (long : short_table (length table) w h ≡ false) where
  pub update_built : place < w * h → old ≡ get_or p (4 * place + 3) 0 → old < top → new < top →
      answered 0 (laid (built w h (alpha_plane (set p (4 * place + 3) new) w)) table) ≡ update_outcome (laid (built w h (alpha_plane p w)) table) w h place old new
  unfolding update_outcome
  update_built inside is low high =
      let x = place % w in
      let y = place / w in
      let there = alpha_there p w place ∙ sym is in
      let set_to = alpha_set p w place new (omega (arith, (right_length (length p) w h).0 exact)) in
      let built-before = laid (built w h (alpha_plane p w)) table in
      let room = (long_table (length table) w h).0 long in
      let size : length built-before ≡ length table = built_length w h (alpha_plane p w) table (omega (arith, mul_comm w h)) in
      ap (answered 0)
      (sym (ap₂ (updated built-before w h x y) (sym there) (sym set_to)
      ∙ afresh w h (alpha_plane p w) (alpha_plane (set p (4 * place + 3) new) w) x y (alpha_other p w place new) table (full_sized w h sides).w_low (omega (arith, there)) (omega (arith, set_to))))
      ∙ at_end (length built-before) w h (wrong_place w h place) built-before _ sides (ap (λ (n : ℕ). short_table n w h) size ∙ long) ((right_place w h place).1 inside)
