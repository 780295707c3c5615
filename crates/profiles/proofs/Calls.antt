-- The laws of the whole-number profile, of the entries' contracts.
use mathlib.Core.Path.{◌≡◌, sym, ap, ◌∙◌}
use mathlib.Core.List.{List}
use Prim.Native.Nat.{ℕ, ◌<◌}
use native.Mathlib.Omega.{arith}
use borrow.Author.Tests.{ltb-false}
use Rattle.picture.specs.Planes.{chan}
use Rattle.picture.specs.Modes.{mode_of}
use Rattle.picture.specs.Refusal.{number_of}
use Rattle.picture.specs.Answer.{answered, Lent, lent}
use Rattle.picture.specs.declared.EdgeMode.TheVariants.{None}
use Rattle.picture.proofs.Answers.{lent_once}
use Rattle.picture.proofs.Settled.{read}
use Rattle.binary32.specs.Grid.{sum}
use Rattle.picture.proofs.Refused.{answer_once}
use Rattle.kept.proofs.Left.{either_way}
use Rattle.gaussian_blur.specs.Outcome.{blur_outcome}
use Rattle.exact_blur.specs.Exact.{exact_blur}
use Rattle.exact_blur.specs.Demand.{steps_of, Within, LentBytes}
use Rattle.grid_sums.specs.Sums.{heavy}
use Rattle.whole_blur.specs.Blurred.{whole_blurred}
use Rattle.whole_blur.specs.Outcome.{whole_outcome}
use Rattle.whole_blur.proofs.Outcomes.{whole_passes}
use Rattle.profiles.specs.Between.{InRange, least_of, greatest_of}
use Rattle.profiles.specs.Calls.{BlurInput, SameCalls, LeavesBetween, LeavesNearExact}
use Rattle.profiles.proofs.Same.{whole_near_exact}
use Rattle.profiles.proofs.Answers.{same_answers}
use Rattle.profiles.proofs.Between.{extremes, between_extremes}

pub same_calls : SameCalls
same_calls κs κs' a b r r' left left' post post' alike those fits number above bytes =
    let weights = b.1.1.1.1.0.now in
    let strength = b.1.1.1.1.1.1.0 in
    let o =
    lent_once
    (post ∙ same_answers _ weights those fits strength number above _ _ _ _ _ _ (λ i. omega (arith, (bytes i).fits))
    ∙ ap (λ (i : BlurInput). blur_outcome i.picture i.w i.h i.scratch weights i.n strength i.edge) alike ∙ sym post') in
    (answer_once o.0, o.1, o.2)

-- for a caller, of the equation that the entry promises
pub left_between : (p : List ℕ) (w h : ℕ) (s ms : List ℕ) (n edge r : ℕ) (left : Lent) → answered r left ≡ whole_outcome p w h s ms n edge →
    sum ms ≡ 65536 → (mode_of edge ≡ None → ⊥) → (c : ℕ) → c < 4 → InRange (least_of w h (chan p w c)) (greatest_of w h (chan p w c)) w h c left.picture
unfolding whole_outcome
left_between p w h s ms n edge r left e whole mode c lc =
    either_way (λ (l : Lent). InRange (least_of w h (chan p w c)) (greatest_of w h (chan p w c)) w h c l.picture) _ _ _ r left e
    (extremes w h (chan p w c)) (λ _. between_extremes ms whole (mode_of edge) mode n w h p c lc)

pub leaves_between : LeavesBetween
leaves_between κs a r left post = left_between _ _ _ _ _ _ _ (number_of r) (lent left.0.now left.1.1.1.0.now) post

pub left_near_exact : (p : List ℕ) (w h : ℕ) (s ms : List ℕ) (n edge r : ℕ) (left : Lent) → answered r left ≡ whole_outcome p w h s ms n edge →
    r ≡ 0 → LentBytes p → (c x y : ℕ) → c < 4 → x < w → y < h →
    Within (steps_of n) n (chan left.picture w c x y) (exact_blur (mode_of edge) ms n w h (chan p w c) x y)
unfolding whole_outcome heavy
left_near_exact p w h s ms n edge r left e zero bytes c x y lc lx ly =
    let told = read _ _ _ r left e in
    let light = (whole_passes p w h s ms n edge (sym zero ∙ told.number)).1.kernel.light in
    let is : left.picture ≡ whole_blurred (mode_of edge) ms n w h p = ap (λ (l : Lent). l.picture) (told.finished zero) in
    rw is (whole_near_exact ms (ltb-false 65536 (sum ms) light) (mode_of edge) n w h p (λ i. omega (arith, (bytes i).fits)) c x y lc lx ly)

pub leaves_near_exact : LeavesNearExact
leaves_near_exact κs a r left post = left_near_exact _ _ _ _ _ _ _ (number_of r) (lent left.0.now left.1.1.1.0.now) post
