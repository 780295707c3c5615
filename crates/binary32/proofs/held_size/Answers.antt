-- `held_size` meets its contract: below 2 ^ 32 twice x is exact, and half of its whole part and one is x rounded; from there on the bound is less.
use Rattle.std.proofs.Common.{◌≡◌, ℕ, ◌+◌, ◌/◌, ◌≤◌, min, T, true, sym, refl, ◌∙◌, subst, arith}
use mathlib.Core.Bool.{false≢true}
use lib.Ieee.{Float, nan, inf, fin, binary32, fits, is_nan, of_bits}
use Rattle.binary32.specs.Round.{held_size}
use Rattle.binary32.proofs.Ranges.{ne_self}
use Rattle.binary32.proofs.Offsets.{cut_asks, cut_gives, beyond}
use Rattle.binary32.proofs.held_size.Goals as goal
use Rattle.binary32.proofs.held_size.Goals.{Start, After-truncating_f32_to_u64-twice}

-- x fits its type
fit : (c : Start) → T (fits binary32 c.args.x)
fit c = subst T (sym c.well_formed.0.1) tt

pub truncating_f32_to_u64-twice-requires : goal.truncating_f32_to_u64-twice-requires
unfolding of_bits
truncating_f32_to_u64-twice-requires c =
    let asks = cut_asks c.args.x (fit c.before) c.requires.fact_1 c.if-x.true in
    record { lower_bound = asks.0; upper_bound = asks.1 }

-- what the cut found
found : (c : After-truncating_f32_to_u64-twice) →
    let n = c.truncating_f32_to_u64-twice.result in
    (n ≤ 8589934592) × (min c.args.bound ((n + 1) / 2) ≡ held_size c.args.bound c.args.x)
unfolding of_bits
found c =
    let s = c.before.before in
    rw c.truncating_f32_to_u64-twice.ensures (cut_gives c.args.x (fit s) c.requires.fact_1 c.if-x.true c.args.bound)

pub overflow_add-size : goal.overflow_add-size
overflow_add-size c = let f = found c in omega arith

pub returns-then-x : goal.returns-then-x
returns-then-x c = let f = found (goal.at.returns-then-x c).After-truncating_f32_to_u64-twice in omega (arith, c.min.ensures)

-- the size of a NaN
nan_size : (bound : ℕ) (x : Float) → is_nan x ≡ true → 0 ≡ held_size bound x
unfolding held_size is_nan
nan_size bound nan h = refl
nan_size bound (inf s) h = absurd (false≢true h)
nan_size bound (fin s m e) h = absurd (false≢true h)

pub returns-then-is_nan : goal.returns-then-is_nan
unfolding held_size
returns-then-is_nan c = nan_size c.args.bound c.args.x (sym c.is_nan.ensures.value ∙ c.if-is_nan.true)

pub returns-else-is_nan : goal.returns-else-is_nan
unfolding of_bits
returns-else-is_nan c =
    beyond c.args.bound c.args.x c.requires.fact_2 c.requires.fact_1 c.if-x.false (ne_self c.args.x ∙ sym c.is_nan.ensures.value ∙ c.if-is_nan.false)
