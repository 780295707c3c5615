-- What writing a file comes to in each case of its checks.
use mathlib.Core.Path.{◌≡◌, refl, sym, ap}
use mathlib.Core.Bool.{Bool, true, false}
use mathlib.Core.List.{List}
use Prim.Native.Nat.{ℕ}
use native.Mathlib.Omega.{arith}
use lib.Dec.{ltb}
use lib.ListN.{length}
use Rattle.std.proofs.Common.{Ok, Err}
use Rattle.picture.specs.Answer.{Answer, answered, settled}
use Rattle.picture.specs.Planes.{laid}
use Rattle.picture.specs.Refusal.{number, first_else, first_of, wrong_sides, wrong_length}
use Rattle.picture.specs.declared.checks.Refusal.{Refusal}
use Rattle.picture.specs.declared.checks.Refusal.TheVariants.{TooShort, Exceeds}
use Rattle.picture.proofs.Refused.{number_some}
use Rattle.grading.specs.Premultiplied.{Finding, none, found_at, finding, checked}
use Rattle.grading.specs.declared.premultiplied.Place.{Place}
use Rattle.pam_format.specs.Format.{file_length}
use Rattle.pam.specs.Needs.{Passed}
use Rattle.pam.specs.Export.{file_left, export_refusal, file_of, refused_at, export_outcome, export_answer}

number_of : {a b : Answer Finding} → a ≡ b → a.number ≡ b.number
number_of = ap (λ (o : Answer Finding). o.number)

module _ (picture : List ℕ) (w h : ℕ) where
  -- answered 0: the picture passed both
  pub past_both : (f : Finding) → answered 0 f ≡ checked picture w h → Passed picture w h f
  unfolding checked settled first_of first_else
  past_both f e = by (wrong_sides w h) refl (wrong_length (length picture) w h) refl
    where
      by : (a : Bool) → wrong_sides w h ≡ a → (b : Bool) → wrong_length (length picture) w h ≡ b → Passed picture w h f
      by true s b l = let z : ◌≡◌ {A = ℕ} 0 1 = number_of (rw s at e) in absurd (omega arith)
      by false s true l = let z : ◌≡◌ {A = ℕ} 0 2 = number_of (rw (s, l) at e) in absurd (omega arith)
      by false s false l = record { sides = s; exact = l; scan = sym (ap (λ (o : Answer Finding). o.left) (rw (s, l) at e)) }

  module _ (file : List ℕ) where
    -- 1 and 2: the check's own refusals
    pub refused_picture : (r : Refusal) → answered (number r) none ≡ checked picture w h → export_answer (Err (refused_at r 0)) file ≡ export_outcome picture w h file
    unfolding checked export_outcome export_refusal settled first_of first_else
    refused_picture r e = by (wrong_sides w h) refl (wrong_length (length picture) w h) refl
      where
        same : {n : ℕ} → number r ≡ n → answered (number r) (file_left 0 0 file) ≡ answered n (file_left 0 0 file)
        same = ap (λ (n : ℕ). answered n (file_left 0 0 file))

        by : (a : Bool) → wrong_sides w h ≡ a → (b : Bool) → wrong_length (length picture) w h ≡ b → export_answer (Err (refused_at r 0)) file ≡ export_outcome picture w h file
        by true s b l = rw s (same (number_of (rw s at e)))
        by false s true l = rw (s, l) (same (number_of (rw (s, l) at e)))
        by false s false l = let z : number r ≡ 0 = number_of (rw (s, l) at e) in absurd (omega (arith, number_some r))

    -- 16, with the first place
    pub refused_place : (p : Place) → answered 0 (found_at p.at) ≡ checked picture w h → export_answer (Err (refused_at Exceeds p.at)) file ≡ export_outcome picture w h file
    unfolding number export_outcome export_refusal settled first_of first_else
    refused_place p e = let t = past_both (found_at p.at) e in rw (t.sides, t.exact, t.scan)

    module _ (t : Passed picture w h none) where
      -- 3: too little room
      pub no_room : ltb (length file) (file_length w h) ≡ true → export_answer (Err (refused_at TooShort 0)) file ≡ export_outcome picture w h file
      unfolding number export_outcome export_refusal settled first_of first_else
      no_room l = rw (t.sides, t.exact, t.scan, l)

      pub written : ltb (length file) (file_length w h) ≡ false → (new : List ℕ) → new ≡ laid (file_of w h picture) file → export_answer (Ok (file_length w h)) new ≡ export_outcome picture w h file
      unfolding export_outcome export_refusal settled first_of first_else
      written l new e = rw (t.sides, t.exact, t.scan, l, e)
