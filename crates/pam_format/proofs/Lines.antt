-- Laws of a line that is written text after text.
use mathlib.Core.Path.{◌≡◌, refl, sym, ap, ◌∙◌}
use mathlib.Core.List.{List, [], ◌++◌, append_assoc}
use Prim.Native.Nat.{ℕ, ◌+◌, ◌-◌}
use native.Mathlib.Omega.{arith}
use lib.ListN.{length, take, drop, length-append}
use lib.Seq.{take-append_seam, drop-append-add, drop-drop}
use borrow.Rule.Slice.PartMut.{put_mid, Post-is}
use Rattle.picture.specs.Planes.{laid}
use Rattle.pam_format.specs.Header.{written_at}

-- a part that is written whole
pub part_is : (at n : ℕ) (text line part : List ℕ) → part ≡ text → n ≡ length text → put_mid at (at + n - at) line part ≡ written_at at text line
part_is at n text line part e l =
    rw (e, l) (ap (λ (rest : List ℕ). take at line ++ (text ++ rest)) (Post-is at (at + length text) line (omega arith)))

-- a line that was `old` begins with some text, and `at` is the place after it
pub record Begun (text old : List ℕ) (at : ℕ) (line : List ℕ) : Type 0 where
  pub so : line ≡ laid text old
  pub place : at ≡ length text

-- nothing is written yet
pub begin : (old : List ℕ) → Begun [] old 0 old
unfolding laid
begin old = record { so = refl; place = refl }

-- one text more
pub more : {before old line new : List ℕ} {at end : ℕ} (text : List ℕ) → Begun before old at line → end ≡ at + length text → new ≡ written_at at text line → Begun (before ++ text) old end new
unfolding laid
more {before} {old} {at = at} text b e n =
    record {
      so = n ∙ rw (
        b.so,
        b.place,
        take-append_seam before (drop (length before) old),
        drop-append-add before (drop (length before) old) (length text),
        drop-drop (length text) (length before) old,
        length-append before text,
      ) (sym (append_assoc before text (drop (length before + length text) old)));
      place = simp length-append (omega (arith, e, b.place));
    }
