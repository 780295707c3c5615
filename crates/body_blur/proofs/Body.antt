-- One body lent to the blur: its part of the file fits, and what comes back is the body blurred in its place.
use mathlib.Core.Path.{◌≡◌, ◌∙◌, ap}
use mathlib.Core.List.{List}
use Prim.Native.Nat.{ℕ, ◌+◌, ◌-◌, ◌≤◌}
use native.Mathlib.Nat.{add-sub_cancel_left}
use native.Mathlib.Omega.{arith}
use lib.ListN.{length, take, drop, length-drop}
use lib.Seq.{length-take-le}
use Rattle.picture.specs.Planes.{bytes_of, cleared}
use Rattle.picture.specs.Answer.{Lent, lent}
use Rattle.plate_format.specs.Format.{entry_of}
use Rattle.plate_format.specs.declared.Entry.{Entry}
use Rattle.body_blur.specs.Blur.{BodyBlur}
use Rattle.body_blur.specs.Steps.{BodyFits, with_body, BodyReady, Blurred}

module _ (file : List ℕ) (i start : ℕ) (scratch : List ℕ) (ready : BodyReady file i start scratch) (e : Entry) (is : e ≡ entry_of file i) where
  pub inside : start + e.length ≤ length file
  inside = rw is ready.inside

  pub part_fits : BodyFits e.width e.height (take (start + e.length - start) (drop start file)) scratch
  part_fits =
      record {
        sides = rw is ready.sides;
        exact = rw (add-sub_cancel_left start e.length) (length-take-le e.length (drop start file) (simp length-drop (omega (arith, inside))) ∙ rw is ready.long);
        room = rw (is, ← ready.long) ready.room;
      }

  pub part_back : (blur : BodyBlur) {part work : List ℕ} →
      lent part work ≡ lent (blur e.width e.height (take (start + e.length - start) (drop start file))) (cleared (bytes_of e.width e.height) scratch) →
      Blurred blur file i start scratch (start + e.length) (with_body file start (start + e.length - start) part) work
  part_back blur came =
      record {
        follows = rw is;
        body = rw (ap (λ (l : Lent). l.picture) came, add-sub_cancel_left start e.length, is);
        zeros = ap (λ (l : Lent). l.scratch) came ∙ rw (is, ← ready.long);
      }
