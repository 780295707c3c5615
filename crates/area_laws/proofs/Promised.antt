-- What request 12 asks, of the contracts of `build`, `box_sum` and `update`, call after call.
use mathlib.Core.Path.{◌≡◌, sym, ap, ap₂, ◌∙◌, refl}
use mathlib.Core.Bool.{Bool, true, false}
use mathlib.Core.List.{List}
use mathlib.Core.Logic.{⊎_elim}
use Prim.Native.Nat.{ℕ, ◌+◌, ◌*◌, ◌/◌, ◌%◌, ◌≤◌, ◌<◌}
use native.Mathlib.Nat.{mul_comm}
use native.Mathlib.Omega.{arith}
use contract.Lifetimes.{Lfts}
use borrow.Fn.Kinds.{Dens, ended_of}
use borrow.Rule.Slice.Know.{Fit}
use borrow.Table.Referent.{f_int}
use borrow.Author.Tests.{eqb-true, eqb-false}
use denote.Triple.Clauses.{AtExit}
use lib.Dec.{eqb}
use lib.ListN.{length, get_or, set, drop, length-set}
use mir.Syntax.{w8}
use mir.Val.{Fits}
use Rattle.picture.specs.Planes.{Plane, chan, laid}
use Rattle.std.specs.Prelude.{Result, Ok}
use Rattle.picture.specs.declared.checks.Refusal.{Refusal}
use Rattle.picture.specs.Refusal.{number_of, first_of, wrong_sides, wrong_length}
use Rattle.picture.proofs.Settled.{Reading, read}
use Rattle.picture.proofs.Spans.{le_or_lt}
use Rattle.area.specs.Area.{alpha_plane, area, box_sum, top, less, built, boxed, updated}
use Rattle.area_updates.specs.Outcome.{update_checks, update_outcome}
use Rattle.area_boxes.specs.Outcome.{box_outcome}
use Rattle.area.specs.Outcome.{short_table, build_outcome}
use Rattle.area_boxes.specs.declared.boxes.AreaSum.{AreaSum}
use Rattle.area_boxes.proofs.Conditions.{InPicture, right_box}
use Rattle.area.proofs.Conditions.{long_table}
use Rattle.area_laws.proofs.Determined.{table_once, box_once}
use Rattle.area_updates.proofs.Gains.{gained_not, gained_there}
use Rattle.area.proofs.Settle.{at_end}
use Rattle.area.proofs.Laid.{laid_below, laid_past}
use Rattle.area_laws.proofs.Tables.{built_length, built_alike, entry_at_lem, box_is_sum}
use Rattle.area_laws.proofs.Taken.{BuildAccepted, build_accepted, build_done, update_built}
use Rattle.area_boxes.proofs.boxes.box_sum.Reads as box
use Rattle.area_boxes.proofs.boxes.box_sum.Kinds as box-kinds
use Rattle.area.proofs.builder.build.Reads as builder
use Rattle.area.proofs.builder.build.Kinds as builder-kinds
use Rattle.area_updates.proofs.updater.update.Reads as update
use Rattle.area_updates.proofs.updater.update.Kinds as update-kinds

-- each element fits a u8: no condition on a caller, but what owning a lent u8 slice gives
abbrev pub LentBytes : List ℕ → Type 0
LentBytes p = Fit (f_int w8) 0 p

-- ---- a call of `build` that is done: its picture, sides and table, and what it left
pub record BuildCall : Type 1 where
  pub κs : Lfts 2
  pub args : Dens κs builder-kinds.ps
  pub left : AtExit (ended_of 2 builder-kinds.ps builder-kinds.r) κs
  pub meets : builder.Post κs args (Ok tt) left

abbrev pub picture : BuildCall → List ℕ
picture b = b.args.0.now

abbrev pub width : BuildCall → ℕ
width b = b.args.1.0

abbrev pub height : BuildCall → ℕ
height b = b.args.1.1.0

abbrev pub lent_table : BuildCall → List ℕ
lent_table b = b.args.1.1.1.0.now

abbrev pub table : BuildCall → List ℕ
table b = b.left.1.1.1.0.now

abbrev pub alphas : BuildCall → Plane
alphas b = alpha_plane (picture b) (width b)

done : (b : BuildCall) → BuildAccepted (picture b) (width b) (height b) (lent_table b) (table b)
unfolding number_of
done b = build_accepted (picture b) (width b) (height b) (lent_table b) (table b) b.meets

-- entry y·w + x is the sum of all alphas above and to the left, itself included, modulo 2^32; no other entry changes, and none comes or goes
pub record Sums (b : BuildCall) : Type 0 where
  pub entries : (x y : ℕ) → x < width b → y < height b → get_or (table b) (y * width b + x) 0 ≡ area (alphas b) (x + 1) (y + 1) % top
  pub rest : (k : ℕ) → width b * height b ≤ k → get_or (table b) k 0 ≡ get_or (lent_table b) k 0
  pub size : length (table b) ≡ length (lent_table b)

pub sums : (b : BuildCall) → Sums b
unfolding built
sums b =
    let w = width b in
    let h = height b in
    let is = (done b).is in
    let turned = mul_comm w h in
    record {
      entries = λ x y lx ly. ap (λ (t : List ℕ). get_or t (y * w + x) 0) is ∙ entry_at_lem w h (alphas b) (lent_table b) x y lx ly;
      rest = λ k l. ap (λ (t : List ℕ). get_or t k 0) is ∙ laid_past (h * w) _ (lent_table b) k (omega arith);
      size = ap length is ∙ built_length w h (alphas b) (lent_table b) (omega (arith, (long_table (length (lent_table b)) w h).0 (done b).long));
    }

-- ---- a call of `box_sum`: its table, sides and box, and what it answered
pub record BoxCall : Type 1 where
  pub κs : Lfts 1
  pub args : Dens κs box-kinds.ps
  pub answer : Result AreaSum Refusal
  pub left : AtExit (ended_of 1 box-kinds.ps box-kinds.r) κs
  pub meets : box.Post κs args answer left

abbrev pub box_table : BoxCall → List ℕ
box_table c = c.args.0.now

abbrev pub box_width : BoxCall → ℕ
box_width c = c.args.1.0

abbrev pub box_height : BoxCall → ℕ
box_height c = c.args.1.1.0

-- the box: its first column and row, and how many of each it has
abbrev pub column : BoxCall → ℕ
column c = c.args.1.1.1.0.x

abbrev pub row : BoxCall → ℕ
row c = c.args.1.1.1.0.y

abbrev pub wide : BoxCall → ℕ
wide c = c.args.1.1.1.0.wide

abbrev pub high : BoxCall → ℕ
high c = c.args.1.1.1.0.high

-- from 1 to 16843009 pixels, each in the picture
abbrev pub RightBox : BoxCall → Type 0
RightBox c = InPicture (box_width c) (box_height c) (column c) (row c) (wide c) (high c)

-- of any table that is long enough: the same combination of at most four entries
pub any_table : (c : BoxCall) → wrong_sides (box_width c) (box_height c) ≡ false → box_width c * box_height c ≤ length (box_table c) → RightBox c →
    c.answer ≡ Ok (record { alphas = boxed (box_table c) (box_width c) (column c) (row c) (wide c) (high c) })
unfolding box_outcome
any_table c sides long inside =
    box_once c.answer (Ok (record { alphas = boxed (box_table c) (box_width c) (column c) (row c) (wide c) (high c) }))
    (c.meets
    ∙ sym (at_end (length (box_table c)) (box_width c) (box_height c) _ 0 _ sides
    ((long_table (length (box_table c)) (box_width c) (box_height c)).1 long)
    ((right_box (box_width c) (box_height c) (column c) (row c) (wide c) (high c)).1 inside)))

-- the alphas of lent bytes are bytes
byte_plane : (p : List ℕ) → LentBytes p → (w i j : ℕ) → alpha_plane p w i j ≤ 255
unfolding chan
byte_plane p bytes w i j = omega (arith, (bytes (4 * (j * w + i) + 3)).fits)

-- a call that is lent what `build` left, and the same sides
module _ (b : BuildCall) {t : List ℕ} {w h : ℕ} (et : t ≡ table b) (ew : w ≡ width b) (eh : h ≡ height b) where
  right_table : (wrong_sides w h ≡ false) × (w * h ≤ length t)
  right_table = rw (et, ew, eh, (sums b).size) ((done b).sides, (long_table (length (lent_table b)) (width b) (height b)).0 (done b).long)

  box_in : LentBytes (picture b) → (x y m n : ℕ) → InPicture w h x y m n → boxed t w x y m n ≡ box_sum (alphas b) x y m n
  box_in bytes x y m n inside =
      ap₂ (λ (t : List ℕ) (w : ℕ). boxed t w x y m n) (et ∙ (done b).is) ew
      ∙ box_is_sum (width b) (height b) (alphas b) (byte_plane (picture b) bytes (width b)) (lent_table b) x y m n (omega (arith, inside.right)) (omega (arith, inside.below)) inside.few

-- of a table that `build` left: the plain sum of the box's alphas
pub plain_sum : (b : BuildCall) → LentBytes (picture b) → (c : BoxCall) → box_table c ≡ table b → box_width c ≡ width b → box_height c ≡ height b → RightBox c →
    c.answer ≡ Ok (record { alphas = box_sum (alphas b) (column c) (row c) (wide c) (high c) })
plain_sum b bytes c t w h inside =
    let right = right_table b t w h in
    any_table c right.0 right.1 inside
    ∙ ap (λ (n : ℕ). Ok (record { alphas = n })) (box_in b t w h bytes (column c) (row c) (wide c) (high c) inside)

-- ---- a call of `update`: its table, sides, place and alphas, and what it answered and left
pub record UpdateCall : Type 1 where
  pub κs : Lfts 1
  pub args : Dens κs update-kinds.ps
  pub answer : Result Unit Refusal
  pub left : AtExit (ended_of 1 update-kinds.ps update-kinds.r) κs
  pub meets : update.Post κs args answer left

abbrev pub before : UpdateCall → List ℕ
before u = u.args.0.now

abbrev pub update_width : UpdateCall → ℕ
update_width u = u.args.1.0

abbrev pub update_height : UpdateCall → ℕ
update_height u = u.args.1.1.0

abbrev pub place : UpdateCall → ℕ
place u = u.args.1.1.1.0

abbrev pub old_alpha : UpdateCall → ℕ
old_alpha u = u.args.1.1.1.1.0

abbrev pub new_alpha : UpdateCall → ℕ
new_alpha u = u.args.1.1.1.1.1.0

abbrev pub after : UpdateCall → List ℕ
after u = u.left.0.now

-- the number that C is answered
abbrev number : UpdateCall → ℕ
number u = number_of u.answer

-- entry k lies at or below and right of the place
pub record Reached (u : UpdateCall) (k : ℕ) : Type 0 where
  pub inside : k < update_width u * update_height u
  pub right : place u % update_width u ≤ k % update_width u
  pub below : place u / update_width u ≤ k / update_width u

reading : (u : UpdateCall) → Reading (first_of (update_checks (length (before u)) (update_width u) (update_height u) (place u))) (before u)
    (updated (before u) (update_width u) (update_height u) (place u % update_width u) (place u / update_width u) (old_alpha u) (new_alpha u)) (number u) (after u)
unfolding update_outcome
reading u = read _ _ _ (number u) (after u) u.meets

-- whatever it answers, it touches no other entry
pub touches_only : (u : UpdateCall) (k : ℕ) → (Reached u k → ⊥) → get_or (after u) k 0 ≡ get_or (before u) k 0
unfolding updated
touches_only u k out = by (eqb (number u) 0) refl
  where
    finished : number u ≡ 0 → get_or (after u) k 0 ≡ get_or (before u) k 0
    finished z =
        ap (λ (t : List ℕ). get_or t k 0) ((reading u).finished z)
        ∙ ⊎_elim
        (λ (m : update_height u * update_width u ≤ k). laid_past (update_height u * update_width u) _ (before u) k m)
        (λ (m : k < update_height u * update_width u).
        laid_below (update_height u * update_width u) _ (before u) k m
        ∙ gained_not (before u) (update_width u) (place u % update_width u) (place u / update_width u) (less (new_alpha u) (old_alpha u)) k
        (λ r d. out (record { inside = omega (arith, mul_comm (update_width u) (update_height u)); right = r; below = d })))
        (le_or_lt (update_height u * update_width u) k)

    by : (b : Bool) → eqb (number u) 0 ≡ b → get_or (after u) k 0 ≡ get_or (before u) k 0
    by true z = finished (eqb-true (number u) 0 z)
    by false z = ap (λ (t : List ℕ). get_or t k 0) ((reading u).unchanged (eqb-false (number u) 0 z))

-- and where it is done, each entry that it reaches gains the new alpha less the old one, modulo 2^32
pub touches : (u : UpdateCall) (k : ℕ) → u.answer ≡ Ok tt → Reached u k → get_or (after u) k 0 ≡ (get_or (before u) k 0 + less (new_alpha u) (old_alpha u)) % top
unfolding updated number_of
touches u k z r =
    let w = update_width u in
    let h = update_height u in
    ap (λ (t : List ℕ). get_or t k 0) ((reading u).finished (ap number_of z))
    ∙ laid_below (h * w) _ (before u) k (omega (arith, r.inside, mul_comm w h))
    ∙ gained_there (before u) w (place u % w) (place u / w) (less (new_alpha u) (old_alpha u)) k r.right r.below

-- ---- a picture's table is built, one alpha of the picture changes, and the table is updated: it is the table built afresh
-- of the changed picture, in any table that is as long and has the same entries past the picture's
pub record Afresh (b : BuildCall) (u : UpdateCall) : Type 1 where
  pub κs : Lfts 2
  pub args : Dens κs builder-kinds.ps
  pub answer : Result Unit Refusal
  pub left : AtExit (ended_of 2 builder-kinds.ps builder-kinds.r) κs
  pub meets : builder.Post κs args answer left
  pub changed : args.0.now ≡ set (picture b) (4 * place u + 3) (new_alpha u)
  pub same_width : args.1.0 ≡ width b
  pub same_height : args.1.1.0 ≡ height b
  pub same_length : length args.1.1.1.0.now ≡ length (lent_table b)
  pub same_rest : drop (height b * width b) args.1.1.1.0.now ≡ drop (height b * width b) (lent_table b)

-- the update carries the change of one alpha of the picture
pub record Carries (b : BuildCall) (u : UpdateCall) : Type 0 where
  pub table_left : before u ≡ table b
  pub same_width : update_width u ≡ width b
  pub same_height : update_height u ≡ height b
  pub inside : place u < width b * height b
  pub old_is : old_alpha u ≡ get_or (picture b) (4 * place u + 3) 0
  pub new_fits : Fits w8 (new_alpha u)

pub rebuilt : (b : BuildCall) → LentBytes (picture b) → (u : UpdateCall) → Carries b u → (f : Afresh b u) →
    (u.answer ≡ Ok tt) × (f.answer ≡ Ok tt) × (after u ≡ f.left.1.1.1.0.now)
unfolding number_of
rebuilt b bytes u c f =
    let a = done b in
    let w = width b in
    let h = height b in
    let byte = (bytes (4 * place u + 3)).fits in
    let now-set = set (picture b) (4 * place u + 3) (new_alpha u) in
    let updates =
    table_once {r₂ = Ok tt}
    (u.meets
    ∙ ap (λ (t : List ℕ). update_outcome t (update_width u) (update_height u) (place u) (old_alpha u) (new_alpha u)) (c.table_left ∙ a.is)
    ∙ ap₂ (λ (m n : ℕ). update_outcome (laid (built w h (alphas b)) (lent_table b)) m n (place u) (old_alpha u) (new_alpha u)) c.same_width c.same_height
    ∙ sym (update_built (picture b) (lent_table b) w h (place u) (old_alpha u) (new_alpha u) a.sides a.exact a.long c.inside c.old_is (omega (arith, c.old_is)) (omega (arith, c.new_fits.fits)))) in
    let builds =
    table_once {r₂ = Ok tt}
    (f.meets
    ∙ ap (λ (p : List ℕ). build_outcome p f.args.1.0 f.args.1.1.0 f.args.1.1.1.0.now) f.changed
    ∙ ap₂ (λ (m n : ℕ). build_outcome now-set m n f.args.1.1.1.0.now) f.same_width f.same_height
    ∙ sym (build_done now-set w h f.args.1.1.1.0.now a.sides (ap (λ (n : ℕ). wrong_length n w h) (length-set (picture b) (4 * place u + 3) (new_alpha u)) ∙ a.exact) (ap (λ (n : ℕ). short_table n w h) f.same_length ∙ a.long))) in
    (updates.0, builds.0, updates.1 ∙ built_alike w h (alpha_plane now-set w) (lent_table b) f.args.1.1.1.0.now (sym f.same_rest) ∙ sym builds.1)
