-- The 16 bits of a numerator are one weight; 65536 has none there, and is two of 32768, one after the other.
use mathlib.Core.Path.{◌≡◌, refl, ap}
use Prim.Native.Nat.{ℕ, ◌+◌, ◌*◌, ◌%◌, ◌≤◌, ◌<◌}
use native.Mathlib.Omega.{arith}
use lib.ListN.{get_or}
use Rattle.picture.proofs.Spans.{span_at, span_same}
use Rattle.grid_sums.specs.Room.{most_sum}
use Rattle.grid_sums.proofs.Sums.{product_fits}
use Rattle.grid_sums.proofs.Lanes.{run_again}
use Rattle.grid_sums.proofs.add_tap.Goals as goal
use Rattle.grid_sums.proofs.add_tap.Goals.{After-add_part}

-- once the 16 bits are added
module _ (u : After-add_part) where
  abbrev byte : ℕ → ℕ
  byte i = get_or u.args.src.now (u.args.a + i) 0

  added : (i : ℕ) → i < u.args.n → get_or u.add_part.new.acc i 0 ≡ get_or u.args.acc.now i 0 + byte i * (u.args.k % 65536)
  added i h = span_at u.add_part.ensures i (omega arith) (omega arith) h

  weighed : {k : ℕ} (i : ℕ) → k < 65536 → byte i * k ≤ most_sum
  weighed i l = product_fits (u.type_inv.src (u.args.a + i)).fits l

  small : (i : ℕ) → i < u.args.n → get_or u.add_part.new.acc i 0 ≤ most_sum + most_sum
  small i h = let r : u.args.k % 65536 < 65536 = omega arith in omega (arith, added i h, u.requires.fact_4 i h, weighed i r)

pub add_part-requires : goal.add_part-requires
add_part-requires c = record { fact_1 = c.requires.fact_1; fact_2 = c.requires.fact_2; fact_3 = (λ i h. omega (arith, c.requires.fact_4 i h)) }

pub add_part-requires-then-k-gt65535 : goal.add_part-requires-then-k-gt65535
add_part-requires-then-k-gt65535 c =
    let u = (goal.at.add_part-requires-then-k-gt65535 c).After-add_part in
    record { fact_1 = omega (arith, c.add_part.auto.acc, c.requires.fact_1); fact_2 = c.requires.fact_2; fact_3 = (λ i h. omega (arith, small u i h)) }

pub add_part-requires-then-k-gt65535-2 : goal.add_part-requires-then-k-gt65535-2
add_part-requires-then-k-gt65535-2 c =
    let u = (goal.at.add_part-requires-then-k-gt65535-2 c).After-add_part in
    record {
      fact_1 = omega (arith, c.add_part-then-k-gt65535.auto.acc, c.add_part.auto.acc, c.requires.fact_1);
      fact_2 = c.requires.fact_2;
      fact_3 = (λ i h. omega (arith, span_at c.add_part-then-k-gt65535.ensures i {j = i} (omega arith) (omega arith) h, small u i h, weighed u {k = 32768} i (omega arith)));
    }

pub returns-then-k-gt65535 : goal.returns-then-k-gt65535
returns-then-k-gt65535 c =
    let u = (goal.at.returns-then-k-gt65535 c).After-add_part in
    let k = c.args.k in
    let all : k ≡ 65536 = omega (arith, c.requires.fact_3) in
    let none : k % 65536 ≡ 0 = omega arith in
    run_again (run_again c.add_part.ensures c.add_part-then-k-gt65535.ensures (λ i h. refl)) c.add_part-then-k-gt65535-2.ensures
    (λ i h.
    omega (
      arith,
      span_at c.add_part-then-k-gt65535.ensures i {j = i} (omega arith) (omega arith) h,
      added u i h,
      ap (λ (m : ℕ). byte u i * m) all,
      ap (λ (m : ℕ). byte u i * m) none,
    ))

pub returns-else-k-gt65535 : goal.returns-else-k-gt65535
returns-else-k-gt65535 c =
    let u = (goal.at.returns-else-k-gt65535 c).After-add_part in
    let same : c.args.k % 65536 ≡ c.args.k = omega arith in
    span_same c.add_part.ensures (λ i l h. ap (λ (m : ℕ). get_or c.args.acc.now i 0 + byte u i * m) same)
