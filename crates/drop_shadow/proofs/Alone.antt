-- The alpha statement, of the entry's contract: two calls without the original whose pictures agree in alpha, and whose terms and lengths
-- are the same, answer the same; and where they are done they leave the same picture.
use mathlib.Core.Path.{◌≡◌, ◌∙◌, refl, sym, ap, subst}
use mathlib.Core.Bool.{Bool, false}
use mathlib.Core.List.{List}
use Prim.Native.Nat.{ℕ, ◌<◌}
use contract.Lifetimes.{Lfts}
use borrow.Fn.Kinds.{Dens, ended_of}
use denote.Triple.Clauses.{AtExit}
use lib.Ieee.{Float}
use lib.ListN.{length}
use Rattle.picture.specs.Answer.{Answer, LentCopy, lent_copy}
use Rattle.picture.specs.Modes.{mode_of}
use Rattle.picture.specs.Planes.{chan}
use Rattle.picture.specs.Refusal.{number_of, first_of}
use Rattle.picture.specs.declared.checks.Refusal.{Refusal}
use Rattle.picture.proofs.Settled.{read}
use Rattle.std.proofs.Common.{Result, Ok}
use Rattle.picture.proofs.Refused.{answer_once}
use Rattle.drop_shadow.specs.Outcome.{shadow_checks, shadow_outcome}
use Rattle.drop_shadow.specs.Alike.{Terms, outcome_of, AlphaAlike}
use Rattle.drop_shadow.specs.Shadowed.{shadowed}
use Rattle.drop_shadow.specs.declared.Recipe.{Recipe}
use Rattle.drop_shadow.proofs.Accepted as fits
use Rattle.drop_shadow.proofs.Alpha.{alone_same}
use Rattle.drop_shadow.proofs.shadow.Reads as shadow
use Rattle.drop_shadow.proofs.shadow.Kinds as kinds

-- the same number, and where that is 0 the same picture
abbrev pub SameOutcome : Answer LentCopy → Answer LentCopy → Type 0
SameOutcome one two = (one.number ≡ two.number) × (one.number ≡ 0 → one.left.picture ≡ two.left.picture)

-- the plain form, of the definitions: alike calls come to the same
pub alike_same : (a b : LentCopy) (t u : Terms) → AlphaAlike a b t u → SameOutcome (outcome_of a t) (outcome_of b u)
unfolding shadow_outcome
alike_same a b t u alike = subst (λ (v : Terms). SameOutcome (outcome_of a t) (outcome_of b v)) alike.terms (same, picture)
  where
    number : (l : LentCopy) → (outcome_of l t).number ≡ first_of (shadow_checks (length l.picture) t.w t.h (length l.scratch) (length l.copy) t.weights t.n t.edge t.recipe)
    number l = (read _ _ _ _ (outcome_of l t).left refl).number

    same : (outcome_of a t).number ≡ (outcome_of b t).number
    same = number a ∙ rw (alike.picture, alike.scratch, alike.copy) (sym (number b))

    left : (l : LentCopy) → (outcome_of l t).number ≡ 0 → (outcome_of l t).left.picture ≡ shadowed (mode_of t.edge) t.weights t.n t.recipe false t.w t.h l.picture
    left l z =
        ap (λ (m : LentCopy). m.picture) ((read _ _ _ _ (outcome_of l t).left refl).finished z)
        ∙ ap (λ (c : Bool). shadowed (mode_of t.edge) t.weights t.n t.recipe c t.w t.h l.picture) alike.alone

    picture : (outcome_of a t).number ≡ 0 → (outcome_of a t).left.picture ≡ (outcome_of b t).left.picture
    picture z =
        let sized = (fits.accepted a.picture t.w t.h a.scratch a.copy t.weights t.n t.edge t.recipe (sym z ∙ number a)).1.pictured.sized in
        left a z
        ∙ alone_same t.w t.h sized.w_low sized.h_low (mode_of t.edge) t.weights t.n t.recipe a.picture b.picture alike.alpha
        ∙ sym (left b (sym same ∙ z))

-- plainer still: two lists of one length that agree in alpha, and all else the same
pub alpha_plain : (p q : List ℕ) (w h : ℕ) (s c : List ℕ) (weights : List Float) (n edge : ℕ) (recipe : Recipe) → length p ≡ length q →
    ((x y : ℕ) → x < w → y < h → chan p w 3 x y ≡ chan q w 3 x y) →
    SameOutcome (shadow_outcome p w h s c weights n edge recipe false) (shadow_outcome q w h s c weights n edge recipe false)
alpha_plain p q w h s c weights n edge recipe long alpha =
    let t : Terms = record { w = w; h = h; weights = weights; n = n; edge = edge; recipe = recipe; composite = false } in
    alike_same (lent_copy p s c) (lent_copy q s c) t t
    (record { terms = refl; alone = refl; picture = long; scratch = refl; copy = refl; alpha = alpha })

-- a call's buffers and terms, out of the contract's own reading
abbrev pub buffers : (κs : Lfts 4) → Dens κs kinds.ps → LentCopy
buffers κs a = lent_copy a.0.now a.1.1.1.0.now a.1.1.1.1.0.now

abbrev pub terms : (κs : Lfts 4) → Dens κs kinds.ps → Terms
terms κs a =
    let rest = a.1.1.1.1.1 in
    record { w = a.1.0; h = a.1.1.0; weights = rest.0.now; n = rest.1.0; edge = rest.1.1.0; recipe = rest.1.1.1.0; composite = rest.1.1.1.1.0 }

pub alpha_alone : (κ₁ κ₂ : Lfts 4) (a₁ : Dens κ₁ kinds.ps) (a₂ : Dens κ₂ kinds.ps) (r₁ r₂ : Result Unit Refusal)
    (x₁ : AtExit (ended_of 4 kinds.ps kinds.r) κ₁) (x₂ : AtExit (ended_of 4 kinds.ps kinds.r) κ₂) →
    AlphaAlike (buffers κ₁ a₁) (buffers κ₂ a₂) (terms κ₁ a₁) (terms κ₂ a₂) → shadow.Post κ₁ a₁ r₁ x₁ → shadow.Post κ₂ a₂ r₂ x₂ →
    (r₁ ≡ r₂) × (r₁ ≡ Ok tt → x₁.0.now ≡ x₂.0.now)
unfolding number_of
alpha_alone κ₁ κ₂ a₁ a₂ r₁ r₂ x₁ x₂ alike h₁ h₂ =
    let s = alike_same (buffers κ₁ a₁) (buffers κ₂ a₂) (terms κ₁ a₁) (terms κ₂ a₂) alike in
    let n₁ = ap (λ (o : Answer LentCopy). o.number) h₁ in
    let n₂ = ap (λ (o : Answer LentCopy). o.number) h₂ in (
      answer_once (n₁ ∙ s.0 ∙ sym n₂),
      λ z. ap (λ (o : Answer LentCopy). o.left.picture) h₁ ∙ s.1 (sym n₁ ∙ ap number_of z) ∙ sym (ap (λ (o : Answer LentCopy). o.left.picture) h₂),
    )
