-- A plate of no pictures: its version, its count, and that it is a plate.
use mathlib.Core.Path.{◌≡◌}
use mathlib.Core.Bool.{true}
use Prim.Native.Nat.{ℕ}
use native.Mathlib.Nat.{zero-mul}
use native.Mathlib.Omega.{arith}
use borrow.Author.Tests.{le-leb}
use Rattle.plate_numbers.specs.Numbers.{u16_at, version, count, known, largest_whole}
use Rattle.plate_format.specs.Format.{max_count, body_offset, all_below, filled, is_plate_to, is_plate}
use Rattle.plate_written.specs.Written.{bytes16, header_bytes}
use Rattle.plate_numbers.proofs.Versions.{whole_small}
use Rattle.plate_empty.specs.Outcome.{empty_plate}

pub empty_version : (v : ℕ) → version (empty_plate v) ≡ v
unfolding header_bytes bytes16 u16_at
empty_version v = omega arith

pub empty_count : (v : ℕ) → count (empty_plate v) ≡ 0
unfolding header_bytes bytes16 u16_at
empty_count v = omega arith

pub empty_plate_lem : (v : ℕ) → known v ≡ true → is_plate (empty_plate v) ≡ true
unfolding is_plate_to filled all_below body_offset max_count header_bytes bytes16 u16_at
empty_plate_lem v k = rw (empty_version v, k, empty_count v, zero-mul, le-leb 4 (largest_whole v) (whole_small v).0)
