-- What request 08 asks, of the contracts of `mend` and `rebuild` and of the check's, call after call.
use mathlib.Core.Path.{◌≡◌, sym, ap, ◌∙◌}
use mathlib.Core.List.{List}
use Prim.Native.Nat.{ℕ, ◌*◌, ◌≤◌, ◌<◌}
use native.Mathlib.Nat.{min-eq_left, min-eq_right}
use native.Mathlib.Omega.{arith}
use contract.Lifetimes.{Lfts}
use borrow.Fn.Kinds.{Dens, ended_of}
use borrow.Rule.Slice.Know.{Fit}
use borrow.Table.Referent.{f_int}
use denote.Triple.Clauses.{AtExit}
use lib.ListN.{length, take}
use mir.Syntax.{w8}
use Rattle.std.specs.Prelude.{Option, None, Result, Ok}
use Rattle.picture.specs.Answer.{Answer, answered}
use Rattle.picture.specs.Refusal.{number_of}
use Rattle.picture.specs.declared.checks.Refusal.{Refusal}
use Rattle.pixels.specs.Channels.{exceeds_at}
use Rattle.pixels.proofs.Painting.{at}
use Rattle.grading.specs.declared.premultiplied.Place.{Place}
use Rattle.picture.proofs.Refused.{number_of_once}
use Rattle.grading.proofs.Injective.{finding_injective}
use Rattle.grading.proofs.premultiplied.check.Reads as check
use Rattle.grading.proofs.premultiplied.check.Kinds as check-kinds
use Rattle.counting.specs.Counts.{how_many}
use Rattle.mending.specs.Outcome.{MendLeft, mend_left}
use Rattle.mending.proofs.Lowered.{mended_at, length_mended}
use Rattle.rebuilding.proofs.Taken.{MendAccepted, mend_accepted, again, old_again, passes_check}
use Rattle.mending.proofs.Determined.{mend_once}
use Rattle.mending.proofs.mender.mend.Reads as mend
use Rattle.mending.proofs.mender.mend.Kinds as mend-kinds
use Rattle.rebuilding.proofs.rebuilder.rebuild.Reads as rebuild
use Rattle.rebuilding.proofs.rebuilder.rebuild.Kinds as rebuild-kinds

-- each element fits a u8: no condition on a caller, but what owning a lent u8 slice gives
abbrev pub LentBytes : List ℕ → Type 0
LentBytes p = Fit (f_int w8) 0 p

-- a call of `mend` that answers a count: its picture, sides and list, and what it left
pub record MendCall : Type 1 where
  pub κs : Lfts 2
  pub args : Dens κs mend-kinds.ps
  pub count : ℕ
  pub left : AtExit (ended_of 2 mend-kinds.ps mend-kinds.r) κs
  pub meets : mend.Post κs args (Ok count) left

abbrev pub given : MendCall → List ℕ
given m = m.args.0.now

abbrev pub width : MendCall → ℕ
width m = m.args.1.0

abbrev pub height : MendCall → ℕ
height m = m.args.1.1.0

abbrev pub list : MendCall → List (List ℕ)
list m = m.args.1.1.1.0.now

abbrev pub picture : MendCall → List ℕ
picture m = m.left.0.now

abbrev pub changes : MendCall → List (List ℕ)
changes m = m.left.1.1.1.0.now

done : (m : MendCall) → MendAccepted (given m) (width m) (height m) (list m) (mend_left (picture m) (changes m) m.count)
done m = mend_accepted (given m) (width m) (height m) (list m) (mend_left (picture m) (changes m) m.count) m.meets

-- the count is the number of places whose pixel fails the check
pub counts : (m : MendCall) → m.count ≡ how_many (exceeds_at (given m)) (width m * height m)
counts m = ap (λ (l : MendLeft). l.count) (done m).done

-- no byte has come or gone; channel c of pixel k is as it was where it is not above alpha, and alpha where it is
pub record OnlyLowered (m : MendCall) : Type 0 where
  pub size : length (picture m) ≡ length (given m)
  pub kept : (k c : ℕ) → k < width m * height m → c < 4 → at (given m) k c ≤ at (given m) k 3 → at (picture m) k c ≡ at (given m) k c
  pub lowered : (k c : ℕ) → k < width m * height m → c < 4 → at (given m) k 3 < at (given m) k c → at (picture m) k c ≡ at (given m) k 3

pub only_lowered : (m : MendCall) → OnlyLowered m
only_lowered m =
    let is = ap (λ (l : MendLeft). l.picture) (done m).done in
    let w = width m in
    let h = height m in
    record {
      size = ap length is ∙ length_mended w h (given m) ∙ sym (done m).exact;
      kept = λ k c l lc le. ap (λ (p : List ℕ). at p k c) is ∙ mended_at w h (given m) k c l lc ∙ min-eq_left le;
      lowered = λ k c l lc gt. ap (λ (p : List ℕ). at p k c) is ∙ mended_at w h (given m) k c l lc ∙ min-eq_right (omega arith);
    }

-- the check of the mended picture, of the same sides, finds nothing
pub passes : (m : MendCall) (κs : Lfts 1) (a : Dens κs check-kinds.ps) (r : Result (Option Place) Refusal) (x : AtExit (ended_of 1 check-kinds.ps check-kinds.r) κs) → check.Post κs a r x →
    a.0.now ≡ picture m → a.1.0 ≡ width m → a.1.1.0 ≡ height m → r ≡ Ok None
passes m κs a r x post p w h = finding_injective r (Ok None) (post ∙ rw (p, w, h) (passes_check (done m)))

-- mended again, with the same sides and any list, also one of no entries: count 0, and neither picture nor list changes
pub twice : (m : MendCall) (κs : Lfts 2) (a : Dens κs mend-kinds.ps) (r : Result ℕ Refusal) (x : AtExit (ended_of 2 mend-kinds.ps mend-kinds.r) κs) → mend.Post κs a r x →
    a.0.now ≡ picture m → a.1.0 ≡ width m → a.1.1.0 ≡ height m →
    (r ≡ Ok 0) × (x.0.now ≡ a.0.now) × (x.1.1.1.0.now ≡ a.1.1.1.0.now)
twice m κs a r x post p w h =
    let same = mend_once r (Ok 0) x.0.now (picture m) x.1.1.1.0.now a.1.1.1.0.now (post ∙ rw (p, w, h) (again (done m) a.1.1.1.0.now)) in
    (same.0, same.1 ∙ sym p, same.2)

-- rebuilt from the mended picture and the first `count` entries of its list: done, with the old picture
pub rebuilds : (m : MendCall) → LentBytes (given m) →
    (κs : Lfts 2) (a : Dens κs rebuild-kinds.ps) (r : Result Unit Refusal) (x : AtExit (ended_of 2 rebuild-kinds.ps rebuild-kinds.r) κs) → rebuild.Post κs a r x →
    a.0.now ≡ picture m → a.1.0 ≡ width m → a.1.1.0 ≡ height m → a.1.1.1.0.now ≡ take m.count (changes m) →
    (r ≡ Ok tt) × (x.0.now ≡ given m)
unfolding number_of
rebuilds m bytes κs a r x post p w h l =
    let e : answered (number_of r) x.0.now ≡ answered 0 (given m) = post ∙ rw (p, w, h, l) (old_again (done m) (λ i. omega (arith, (bytes i).fits))) in
    (number_of_once r (Ok tt) (ap (λ (o : Answer (List ℕ)). o.number) e), ap (λ (o : Answer (List ℕ)). o.left) e)
