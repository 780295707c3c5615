-- What starting a plate answers and leaves: the number, the buffer, and the length in use.
use Rattle.std.specs.Prelude.{not, List, [], ◌∷◌, ℕ, ltb, length, Result, Ok, Err}
use Rattle.picture.specs.Answer.{Answer, answered, settled}
use Rattle.picture.specs.Planes.{laid}
use Rattle.picture.specs.Refusal.{Check, check, first_of, number}
use Rattle.plate_numbers.specs.Numbers.{known}
use Rattle.plate_written.specs.Written.{header_bytes}
use Rattle.picture.specs.declared.checks.Refusal.{Refusal}

-- the lent buffer, and how many bytes of it are the plate
pub record Grown : Type 0 where
  pub buffer : List ℕ
  pub used : ℕ

abbrev pub grown : List ℕ → ℕ → Grown
grown buffer used = record { buffer = buffer; used = used }

-- a plate of no pictures: its version, and a count of 0
abbrev pub empty_plate : ℕ → List ℕ
empty_plate v = header_bytes v 0

-- starting a plate: 10, then 13
abbrev pub start_checks : ℕ → ℕ → List Check
start_checks room v = check 10 (not (known v)) ∷ check 13 (ltb room 4) ∷ []

-- the first refusal, or a plate of no pictures at the buffer's start; the bytes past it stay
unfoldable pub start_outcome : List ℕ → ℕ → Answer Grown
start_outcome buffer v = settled (first_of (start_checks (length buffer) v)) (grown buffer 0) (grown (laid (empty_plate v) buffer) 4)

-- a length in use and the buffer that it is of: where it is refused, it is 0
abbrev pub grows : Result ℕ Refusal → List ℕ → Answer Grown
grows (Err r) buffer = answered (number r) (grown buffer 0)
grows (Ok used) buffer = answered 0 (grown buffer used)
