-- Laws of refusals: none has the number 0, no two have one number, a refused call changes nothing, and a group of checks that refuses does so for the whole call.
use mathlib.Core.Path.{◌≡◌, refl, ap}
use mathlib.Core.Bool.{Bool, true, false, cond}
use mathlib.Core.List.{List, [], ◌∷◌, ◌++◌}
use Prim.Native.Nat.{ℕ, ◌-◌, ◌<◌}
use native.Mathlib.Omega.{arith}
use lib.Dec.{eqb}
use lib.ListN.{get_or}
use borrow.Author.Tests.{ne_eqb}
use Rattle.std.proofs.Common.{Result, Ok, Err, is_err}
use Rattle.picture.specs.Refusal.{number, number_of, Check, first_else, first_of}
use Rattle.picture.specs.declared.checks.Refusal.{Refusal}
use Rattle.picture.specs.declared.checks.Refusal.TheVariants.{WrongSides, WrongLength, TooShort, WrongTaps, WrongWeight, TooDeep, NotFinite, WrongColour, WrongEdge, BrokenPlate, OffGrid, NoPicture, NoRoom, WrongSum, NoPam, Exceeds, ListFull, WrongList, WrongRecipe, WrongBox, TooDeepToShare, Outside}
use Rattle.picture.specs.Answer.{answered, settled}
use Rattle.picture.proofs.Answers.{undone, refused}

-- the refusal that has a number, from 1 on
unfoldable pub refusal_of : ℕ → Refusal
refusal_of n =
    get_or
    (WrongSides ∷ WrongLength ∷ TooShort ∷ WrongTaps ∷ WrongWeight ∷ TooDeep ∷ NotFinite ∷ WrongColour ∷ WrongEdge ∷ BrokenPlate ∷ OffGrid
    ∷ NoPicture ∷ NoRoom ∷ WrongSum ∷ NoPam ∷ Exceeds ∷ ListFull ∷ WrongList ∷ WrongRecipe ∷ WrongBox ∷ TooDeepToShare ∷ Outside ∷ [])
    (n - 1) WrongSides

refusal_is : (r : Refusal) → refusal_of (number r) ≡ r
unfolding number refusal_of
refusal_is WrongSides = refl
refusal_is _ = refl

-- no refusal has the number 0, which means that the call is done
pub number_some : (r : Refusal) → 0 < number r
unfolding number
number_some WrongSides = omega arith
number_some _ = omega arith

-- an answer is a refusal where its number is not 0
pub refusal_some : (a : Result Unit Refusal) → is_err a ≡ true → number_of a ≡ 0 → ⊥
unfolding number_of
refusal_some (Ok x) t z = cc
refusal_some (Err r) t z = omega (arith, number_some r)

pub refusal_none : (a : Result Unit Refusal) → is_err a ≡ false → number_of a ≡ 0
unfolding number_of
refusal_none (Ok x) f = refl
refusal_none (Err r) f = cc

-- no two refusals have one number, ..
pub number_once : (r s : Refusal) → number r ≡ number s → r ≡ s
number_once = undone number refusal_of refusal_is

-- .. nor have two answers without a value
pub number_of_once : (a b : Result Unit Refusal) → number_of a ≡ number_of b → a ≡ b
unfolding number_of
number_of_once (Ok x) (Ok y) e = refl
number_of_once (Ok x) (Err s) e = absurd (omega (arith, number_some s))
number_of_once (Err r) (Ok y) e = absurd (omega (arith, number_some r))
number_of_once (Err r) (Err s) e = ap Err (number_once r s e)

pub answer_once : {a b : Result Unit Refusal} → number_of a ≡ number_of b → a ≡ b
answer_once {a} {b} e = number_of_once a b e

-- an answer that has a value, from its number and the value
unfoldable pub answer_of : {A : Type 0} → ℕ → A → Result A Refusal
answer_of n value = cond (eqb n 0) (Ok value) (Err (refusal_of n))

pub answer_undone : {A : Type 0} (r : Refusal) (value : A) → answer_of (number r) value ≡ Err r
unfolding answer_of
answer_undone r value = rw (ne_eqb (number r) 0 (λ z. omega (arith, number_some r)), refusal_is r)

-- a call that is refused leaves everything as it was
pub call_refused : {A : Type 0} (r : Refusal) (n : ℕ) (before after : A) → number r ≡ n → answered (number r) before ≡ settled n before after
call_refused r n before after e = rw e (refused n before after (λ z. omega (arith, number_some r, e)))

-- a group of checks that refuses does so for the whole call
pub group_refuses : (ks ls : List Check) (r : ℕ) → 0 < r → r ≡ first_of ks → r ≡ first_of (ks ++ ls)
unfolding first_of first_else
group_refuses [] ls r z e = absurd (omega arith)
group_refuses (k ∷ ks) ls r z e = by k.refuses e (group_refuses ks ls r z)
  where
    by : (b : Bool) → r ≡ cond b k.number (first_else ks 0) → (r ≡ first_else ks 0 → r ≡ first_else (ks ++ ls) 0) → r ≡ cond b k.number (first_else (ks ++ ls) 0)
    by true e h = e
    by false e h = h e
