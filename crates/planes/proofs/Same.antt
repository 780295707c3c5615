-- Converting, working and converting back, as entries answer it: the same number, and the same bytes. Once, for every operation.
use mathlib.Core.Path.{◌≡◌, ◌∙◌, refl, sym, ap}
use mathlib.Core.Bool.{Bool, true, false, cond}
use mathlib.Core.List.{List, ◌++◌}
use Prim.Native.Nat.{ℕ}
use lib.Dec.{eqb}
use lib.ListN.{length}
use Rattle.picture.specs.Planes.{bytes_of}
use Rattle.picture.specs.Refusal.{Check, first_else, first_of, wrong_sides, wrong_length, picture_checks}
use Rattle.picture.specs.Answer.{Answer, answered, settled}
use Rattle.planes.specs.Planar.{planar, interleaved, on_planes}
use Rattle.planes.proofs.Once.{length_planar, back, same}

-- an answer with what is left of the call seen in another form
abbrev pub seen : {A B : Type 0} → (A → B) → Answer A → Answer B
seen f a = answered a.number (f a.left)

settled_seen : {A B : Type 0} (f : A → B) (k : ℕ) (before after : A) → seen f (settled k before after) ≡ settled k (f before) (f after)
unfolding settled
settled_seen f k before after = by (eqb k 0)
  where
    by : (b : Bool) → seen f (cond b (answered 0 after) (answered k before)) ≡ cond b (answered 0 (f after)) (answered k (f before))
    by true = refl
    by false = refl

-- an entry whose number depends on the picture's length alone; `before` and `after` put a picture beside the other buffers, and `f` converts it there
pub same_answer : {A : Type 0} (w h : ℕ) (op : List ℕ → List ℕ) (p : List ℕ) → length p ≡ bytes_of w h → length (op p) ≡ bytes_of w h →
    (number : ℕ → ℕ) (f : A → A) (before after : List ℕ → A) → ((q : List ℕ) → f (before q) ≡ before (interleaved w h q)) → ((q : List ℕ) → f (after q) ≡ after (interleaved w h q)) →
    seen f (settled (number (length (planar w h p))) (before (planar w h p)) (after (on_planes w h op (planar w h p)))) ≡ settled (number (length p)) (before p) (after (op p))
same_answer {A} w h op p e kept number f before after at_first at_last =
    settled_seen f _ _ _
    ∙ ap (λ (k : ℕ). settled k (f (before (planar w h p))) (f (after (on_planes w h op (planar w h p))))) (ap number (length_planar w h p ∙ sym e))
    ∙ ap (λ (b : A). settled (number (length p)) b (f (after (on_planes w h op (planar w h p))))) (at_first (planar w h p) ∙ ap before (back w h p e))
    ∙ ap (settled (number (length p)) (before p)) (at_last (on_planes w h op (planar w h p)) ∙ ap after (same w h op p e kept))

-- checks 1 and 2 in front of what the later ones answer
abbrev after_two : Bool → Bool → ℕ → ℕ
after_two a b later = cond a 1 (cond b 2 later)

-- a picture that converting refuses is refused by every entry that begins with checks 1 and 2, with the same number
pub same_refusal : (len w h : ℕ) (ks ls : List Check) → (first_of (picture_checks len w h) ≡ 0 → ⊥) → first_of (picture_checks len w h ++ ks) ≡ first_of (picture_checks len w h ++ ls)
unfolding first_of first_else
same_refusal len w h ks ls some = by (wrong_sides w h) (wrong_length len w h) some
  where
    by : (a b : Bool) → (after_two a b 0 ≡ 0 → ⊥) → after_two a b (first_else ks 0) ≡ after_two a b (first_else ls 0)
    by true b f = refl
    by false true f = refl
    by false false f = absurd (f refl)
