-- Conversions: one that is done has converted a whole source, one that can be is done, and one that undoes another returns what that was given.
use mathlib.Core.Path.{◌≡◌, ◌∙◌, sym, ap, ap₂}
use mathlib.Core.Bool.{false}
use mathlib.Core.List.{List}
use Prim.Native.Nat.{ℕ, ◌≤◌}
use lib.ListN.{length, take}
use lib.Seq.{take_at}
use Rattle.picture.specs.Planes.{bytes_of, laid}
use Rattle.picture.specs.Sizes.{full_bytes}
use Rattle.picture.specs.Refusal.{wrong_sides}
use Rattle.picture.specs.declared.FullSize.{FullSize}
use Rattle.picture.proofs.Settled.{read}
use Rattle.planes.specs.Planar.{planar, interleaved}
use Rattle.planes.specs.Outcome.{converted_outcome}
use Rattle.planes.proofs.Once.{length_planar, length_interleaved, back, there}
use Rattle.planes.proofs.Entry.{whole_source, nothing_refused}
use Rattle.plane_laws.specs.Calls.{Conversion}
use Rattle.plane_laws.specs.Same.{Follows, Returns, ThereAndBack}
use Rattle.plane_laws.proofs.Calls.{Converts, each_to, each_from}

-- a whole picture, or planes, that checks 1 and 2 let through
pub record Source (z : FullSize) (src : List ℕ) : Type 0 where
  pub sides : wrong_sides z.w z.h ≡ false
  pub exact : length src ≡ full_bytes z

module _ (form : ℕ → ℕ → List ℕ → List ℕ) (z : FullSize) (long : (p : List ℕ) → length (form z.w z.h p) ≡ full_bytes z) where
  -- a call that answers 0: its source is whole, and what it wrote is the other form
  pub was_done : (k : Conversion) → Converts form k → k.size ≡ z → k.number ≡ 0 → Source z k.src × (take (full_bytes z) k.made ≡ form z.w z.h k.src)
  unfolding converted_outcome laid
  was_done k e size zero =
      let t = read _ _ _ k.number k.made e in
      let source = whole_source k.src k.size.w k.size.h k.room (sym zero ∙ t.number) in
      let made : k.made ≡ laid (form z.w z.h k.src) k.room = t.finished zero ∙ ap (λ (z : FullSize). laid (form z.w z.h k.src) k.room) size in
      (record { sides = rw (sym size) source.0; exact = rw (sym size) source.1 }, ap (take (full_bytes z)) made ∙ take_at (form z.w z.h k.src) _ (full_bytes z) (long k.src))

-- a call that nothing keeps from converting
pub is_done : (form : ℕ → ℕ → List ℕ → List ℕ) (z : FullSize) (src : List ℕ) → Source z src → (k : Conversion) → Converts form k → k.size ≡ z → k.src ≡ src → full_bytes z ≤ length k.room →
    (k.number ≡ 0) × (k.made ≡ laid (form z.w z.h src) k.room)
unfolding converted_outcome
is_done form z src whole k e size reads roomy =
    let t = read _ _ _ k.number k.made (e ∙ ap₂ (λ (z : FullSize) (s : List ℕ). converted_outcome form s z.w z.h k.room) size reads) in
    let zero = t.number ∙ nothing_refused src z.w z.h k.room whole.sides whole.exact roomy in
    (zero, t.finished zero)

-- whichever way first
returned : (one other : ℕ → ℕ → List ℕ → List ℕ) → ((w h : ℕ) (p : List ℕ) → length (one w h p) ≡ bytes_of w h) → ((w h : ℕ) (p : List ℕ) → length p ≡ bytes_of w h → other w h (one w h p) ≡ p) →
    (k : Conversion) → Converts one k → (l : Conversion) → Converts other l → Follows k l → Returns k l
returned one other long undo k e l f follows =
    let z = k.size in
    let first = was_done one z (long z.w z.h) k e (λ i. z) follows.first_done in
    let made : Source z (one z.w z.h k.src) = record { sides = first.0.sides; exact = long z.w z.h k.src } in
    let second = is_done other z (one z.w z.h k.src) made l f follows.size_is (follows.reads ∙ first.1) follows.room_enough in
    record { done = second.0; made_is = second.1 ∙ ap (λ (p : List ℕ). laid p l.room) (undo z.w z.h k.src first.0.exact) }

pub there_and_back : ThereAndBack
there_and_back =
    record {
      picture = each_to _ (λ k e. each_from _ (returned planar interleaved length_planar back k e));
      planes = each_from _ (λ k e. each_to _ (returned interleaved planar length_interleaved there k e));
    }
