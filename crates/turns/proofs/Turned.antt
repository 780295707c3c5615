-- Laws of lines that are turned: a byte of them, their size, and that a pass over short lines is one over the turned line, turned back.
use mathlib.Core.Path.{◌≡◌, ◌∙◌, sym, ap}
use mathlib.Core.List.{List}
use Prim.Native.Nat.{ℕ, ◌+◌, ◌*◌, ◌/◌, ◌%◌, ◌<◌}
use native.Mathlib.Nat.{mul_assoc, mul_comm, mul-pos, mod-lt, div-add-mod', div-lt_iff_lt-mul}
use native.Mathlib.Omega.{arith}
use lib.ListN.{length, get_or}
use lib.Seq.{ext_get_or}
use Rattle.picture.proofs.Build.{length_build, get_or-build}
use Rattle.picture.proofs.Planes.{quotient, remainder}
use Rattle.picture.proofs.Spans.{within}
use Rattle.passes.specs.Passes.{Pass}
use Rattle.passes.specs.Written.{lane, passed}
use Rattle.passes.proofs.Local.{Local}
use Rattle.passes.proofs.Planes.{at, length_passed}
use Rattle.passes.proofs.Written.{passed_at}
use Rattle.turns.specs.Turned.{turned}

-- the bytes of lines, counted the other way
pub turned_size : (lines len size : ℕ) → lines * (len * size) ≡ len * (lines * size)
turned_size lines len size =
    sym (mul_assoc lines len size) ∙ ap (λ (k : ℕ). k * size) (mul_comm lines len) ∙ mul_assoc len lines size

pub length_turned : (src : List ℕ) (lines len size : ℕ) → length (turned src lines len size) ≡ lines * (len * size)
unfolding turned
length_turned src lines len size = length_build _ _ ∙ sym (turned_size lines len size)

-- byte k of element x of line y
module _ (src : List ℕ) (lines len size y x k : ℕ) (ly : y < lines) (lx : x < len) (lk : k < size) where
  pub turned_at : get_or (turned src lines len size) (x * (lines * size) + y * size + k) 0 ≡ get_or src (y * (len * size) + x * size + k) 0
  unfolding turned
  turned_at =
      let j = y * size + k in
      let row : j < lines * size = omega (arith, within 0 size y lines ly) in
      let here : x * (lines * size) + y * size + k ≡ x * (lines * size) + j = omega arith in
      let all : x * (lines * size) + j < len * (lines * size) = omega (arith, within 0 (lines * size) x len lx) in
      let there : x * size + y * (len * size) + k ≡ y * (len * size) + x * size + k = omega arith in
      rw (here, get_or-build _ _ _ all, quotient (lines * size) x j row, remainder (lines * size) x j row, quotient size y k lk, remainder size y k lk) (at src there)

module _ (f : Pass) (l : Local f) (src : List ℕ) (lines len out size : ℕ) (some : 0 < len) where
  -- the lines as one, turned
  abbrev as_one : List ℕ
  as_one = passed f (turned src lines len size) 1 len out (lines * size)

  module _ (y x k : ℕ) (ly : y < lines) (lx : x < out) (lk : k < size) where
    -- byte k of what element x of line y becomes is lane y * size + k of element x of the one line
    byte : get_or as_one (x * (lines * size) + y * size + k) 0 ≡ f len (lane src (y * (len * size)) size k) x
    byte =
        let here : x * (lines * size) + y * size + k ≡ 0 * (out * (lines * size)) + x * (lines * size) + (y * size + k) = omega arith in
        let row : y * size + k < lines * size = omega (arith, within 0 size y lines ly) in
        at as_one here
        ∙ passed_at f (turned src lines len size) 1 len out (lines * size) 0 x (y * size + k) (omega arith) lx row
        ∙ l len _ _ some
        (λ i li.
        let there : 0 * (len * (lines * size)) + i * (lines * size) + (y * size + k) ≡ i * (lines * size) + y * size + k = omega arith in
        at (turned src lines len size) there ∙ turned_at src lines len size y i k ly li lk)
        x

    same : get_or (passed f src lines len out size) (y * (out * size) + x * size + k) 0 ≡ get_or (turned as_one out lines size) (y * (out * size) + x * size + k) 0
    same =
        passed_at f src lines len out size y x k ly lx lk
        ∙ sym byte
        ∙ sym (turned_at as_one out lines size x y k lx ly lk)

  -- a pass over short lines is one over them as one line, turned back
  pub turned_rows : 0 < out → 0 < size → passed f src lines len out size ≡ turned as_one out lines size
  turned_rows o s =
      ext_get_or 0 _ _ (length_passed f src lines len out size ∙ sym (length_turned as_one out lines size ∙ turned_size out lines size))
      (λ i h.
      let line = out * size in
      let r = i % line in
      let pos : 0 < line = mul-pos o s in
      let b : i < lines * line = omega (arith, length_passed f src lines len out size) in
      let low : r < line = mod-lt i pos in
      let is : i ≡ i / line * line + r / size * size + r % size = omega (arith, div-add-mod' i line, div-add-mod' r size) in
      at (passed f src lines len out size) is
      ∙ same (i / line) (r / size) (r % size) ((div-lt_iff_lt-mul pos).1 b) ((div-lt_iff_lt-mul s).1 low) (mod-lt r s)
      ∙ at (turned as_one out lines size) (sym is))
