-- Check 3 as a proposition beside its Bool: it does not refuse exactly where its condition holds.
use Rattle.std.proofs.Common.{◌≡◌, ℕ, ◌*◌, ◌≤◌, false, ◌↔◌, ltb-false, le-ltb}
use Rattle.area.specs.Outcome.{short_table}

-- 3: at least wh entries
pub long_table : (entries w h : ℕ) → (short_table entries w h ≡ false) ↔ (w * h ≤ entries)
unfolding short_table
long_table entries w h = (ltb-false entries (w * h), le-ltb entries (w * h))

pub long_enough : (entries w h : ℕ) → short_table entries w h ≡ false → w * h ≤ entries
long_enough entries w h = (long_table entries w h).0
