-- Converting, working and converting back is the operation alone: by what the contracts say of the calls, once over the operation.
use mathlib.Core.Path.{◌≡◌, ◌∙◌, refl, sym, ap}
use mathlib.Core.List.{List, [], ◌∷◌, ◌++◌}
use Prim.Native.Nat.{ℕ, ◌≤◌}
use lib.Dec.{lit<}
use lib.ListN.{length}
use Rattle.picture.specs.Planes.{laid}
use Rattle.picture.specs.Sizes.{full_bytes}
use Rattle.picture.specs.Refusal.{Check, check, first_of, too_short, picture_checks}
use Rattle.picture.specs.Answer.{Answer, answered, LentCopy, lent_copy}
use Rattle.picture.specs.declared.FullSize.{FullSize}
use Rattle.picture.proofs.Sizes.{whole}
use Rattle.picture.proofs.Passed.{passed}
use Rattle.picture.proofs.Settled.{read}
use Rattle.kept.proofs.Left.{either_way}
use Rattle.planes.specs.Planar.{planar, interleaved, on_planes}
use Rattle.planes.specs.Outcome.{converted_outcome}
use Rattle.planes.proofs.Once.{length_planar, length_on_planes}
use Rattle.planes.proofs.Same.{seen, same_answer, same_refusal}
use Rattle.plane_laws.specs.Calls.{Conversion, Operation, blur, shift, shadow, Given, Work}
use Rattle.plane_laws.specs.Same.{Alike, Around, SameAsAlone, Unconverted, RefusedAlike, SameOnPlanes}
use Rattle.plane_laws.proofs.Calls.{Converts, each_to, each_from, checks, made, made_long, scratch_left, copy_left, on_picture, outcome, Works, each_on_planes, each_on_picture}
use Rattle.plane_laws.proofs.Returned.{Source, was_done, is_done}

module _ (o : Operation) where
  -- the number, by the lengths
  abbrev number_of : Given o → FullSize → ℕ → ℕ → ℕ → ℕ
  number_of g z p s c = first_of (checks o g z p s c)

  -- the lent buffers, with the planes converted
  abbrev as_picture : FullSize → LentCopy → LentCopy
  as_picture z l = lent_copy (interleaved z.w z.h l.picture) l.scratch l.copy

  -- on the planes of a whole picture an operation comes to what it comes to on the picture
  same_outcome : (g : Given o) (z : FullSize) (p s c : List ℕ) → length p ≡ full_bytes z →
      seen (as_picture z) (outcome o on_planes g z (lent_copy (planar z.w z.h p) s c)) ≡ outcome o on_picture g z (lent_copy p s c)
  same_outcome g z p s c exact =
      same_answer z.w z.h (made o g z) p exact (made_long o g z p exact)
      (λ len. number_of g z len (length s) (length c)) (as_picture z) (λ q. lent_copy q s c)
      (λ q. lent_copy q (scratch_left o (full_bytes z) s) (copy_left o (full_bytes z) c)) (λ q. refl) (λ q. refl)

  same_bytes : (there : Conversion) → Converts planar there → (worked : Work o) → Works o on_planes worked → (back : Conversion) → Converts interleaved back →
      (alone : Work o) → Works o on_picture alone → Around there worked back alone → SameAsAlone worked back alone
  same_bytes there e worked f back d alone g around =
      let z = alone.size in
      let w = z.w in
      let h = z.h in
      let p = alone.before.picture in
      let first = was_done planar z (length_planar w h) there e around.there_size around.there_done in
      let source : Source z p = rw (sym around.there_reads) first.0 in
      let planes : worked.before.picture ≡ planar w h p = around.planes_are ∙ first.1 ∙ ap (planar w h) around.there_reads in
      let lent : worked.before ≡ lent_copy (planar w h p) alone.before.scratch alone.before.copy =
      λ i. lent_copy (planes i) (around.alike.scratch_is i) (around.alike.copy_is i) in
      let left = f ∙ (λ i. outcome o on_planes (around.alike.given_is i) (around.alike.size_is i) (lent i)) in
      let both : answered worked.number (as_picture z worked.after) ≡ answered alone.number alone.after =
      ap (seen (as_picture z)) left ∙ same_outcome alone.given z p alone.before.scratch alone.before.copy source.exact ∙ sym g in
      let long : length worked.after.picture ≡ full_bytes z =
      either_way (λ (l : LentCopy). length l.picture ≡ full_bytes z) _ _ _ worked.number worked.after left (length_planar w h p) (λ _. length_on_planes w h _ _) in
      let last = is_done interleaved z worked.after.picture (record { sides = source.sides; exact = long }) back d around.back_size around.back_reads around.room_enough in
      record {
        number_is = ap (λ (a : Answer LentCopy). a.number) both;
        scratch_is = ap (λ (a : Answer LentCopy). a.left.scratch) both;
        copy_is = ap (λ (a : Answer LentCopy). a.left.copy) both;
        back_done = last.0;
        picture_is = last.1 ∙ ap (λ (a : Answer LentCopy). laid a.left.picture back.room) both;
      }

  same_numbers : (worked : Work o) → Works o on_planes worked → (alone : Work o) → Works o on_picture alone →
      Alike worked alone → length worked.before.picture ≡ length alone.before.picture → worked.number ≡ alone.number
  same_numbers worked f alone g alike long =
      (read _ _ _ worked.number worked.after f).number
      ∙ (λ i. number_of (alike.given_is i) (alike.size_is i) (long i) (length (alike.scratch_is i)) (length (alike.copy_is i)))
      ∙ sym (read _ _ _ alone.number alone.after g).number

-- an operation's checks begin with 1 and 2, as those of converting do
begins : (o : Operation) (g : Given o) (z : FullSize) (p s c : ℕ) (ks : List Check) → (first_of (picture_checks p z.w z.h) ≡ 0 → ⊥) →
    first_of (checks o g z p s c) ≡ first_of (picture_checks p z.w z.h ++ ks)
begins blur g z p s c ks some = same_refusal p z.w z.h _ ks some
begins shift g z p s c ks some = same_refusal p z.w z.h _ ks some
begins shadow g z p s c ks some = same_refusal p z.w z.h _ ks some

-- what is refused though there is room has wrong sides or a wrong length
not_whole : (there : Conversion) → Converts planar there → full_bytes there.size ≤ length there.room → (there.number ≡ 0 → ⊥) →
    first_of (picture_checks (length there.src) there.size.w there.size.h) ≡ 0 → ⊥
not_whole there e roomy some none =
    let z = there.size in
    let one = passed _ _ (lit< tt) (sym none) in
    let two = passed _ _ (lit< tt) one.1 in
    let source : Source z there.src = record { sides = one.0; exact = (whole there.src z.w z.h one.0 two.0).exact } in
    some (is_done planar z there.src source there e refl refl roomy).0

refused_alike : (o : Operation) (there : Conversion) → Converts planar there → (alone : Work o) → Works o on_picture alone → Unconverted there alone → RefusedAlike there alone
unfolding converted_outcome
refused_alike o there e alone g tried =
    let t = read _ _ _ there.number there.made e in
    let a = read _ _ _ alone.number alone.after g in
    let p = length alone.before.picture in
    let same : alone.number ≡ there.number =
    a.number
    ∙ begins o alone.given alone.size p (length alone.before.scratch) (length alone.before.copy) (check 3 (too_short (length there.room) alone.size.w alone.size.h) ∷ [])
    (rw (sym tried.there_size, sym tried.there_reads) (not_whole there e tried.room_enough tried.there_refused))
    ∙ rw (sym tried.there_size, sym tried.there_reads) (sym t.number) in
    record { number_is = same; left_is = a.unchanged (λ zero. tried.there_refused (sym same ∙ zero)) }

pub same_on_planes : (o : Operation) → SameOnPlanes o
same_on_planes o =
    record {
      bytes = each_to _ (λ there e. each_on_planes o _ (λ worked f. each_from _ (λ back d. each_on_picture o _ (same_bytes o there e worked f back d))));
      not_converted = each_to _ (λ there e. each_on_picture o _ (refused_alike o there e));
      refusals = each_on_planes o _ (λ worked f. each_on_picture o _ (same_numbers o worked f));
    }
