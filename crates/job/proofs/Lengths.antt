-- The longest body: it grows with the bodies that are counted, and lies within the file.
use mathlib.Core.Bool.{true}
use mathlib.Core.Path.{◌≡◌}
use mathlib.Core.List.{List}
use Prim.Native.Nat.{ℕ, zero, suc, ◌≤◌}
use native.Mathlib.Decide.{le_ind}
use native.Mathlib.Omega.{arith}
use lib.ListN.{length}
use Rattle.plate_numbers.specs.Numbers.{count}
use Rattle.plate_format.specs.Format.{is_plate}
use Rattle.plate_format.proofs.Rules.{plate_entry}
use Rattle.job.specs.Job.{longest_below}

pub longest_up : (file : List ℕ) {i n : ℕ} → i ≤ n → longest_below file i ≤ longest_below file n
unfolding longest_below
longest_up file {i} {n} l = le_ind (λ k. longest_below file i ≤ longest_below file k) (omega arith) (λ k _ h. omega arith) n l

pub longest_inside : (file : List ℕ) → is_plate file ≡ true → (i : ℕ) → i ≤ count file → longest_below file i ≤ length file
unfolding longest_below
longest_inside file plate zero l = omega arith
longest_inside file plate (suc i) l = omega (arith, longest_inside file plate i (omega arith), (plate_entry file plate i l).ends)
