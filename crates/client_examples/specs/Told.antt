-- A client's own words for what any call of the blur tells it.
use Rattle.std.specs.Prelude.{◌≡◌, List, ℕ, ◌*◌, ◌≤◌, length}

-- 0 was answered only of sides from 1 to 16384 and a picture of 4wh bytes; any other number left both buffers as they were
pub record Told (r w h : ℕ) (picture scratch picture' scratch' : List ℕ) : Type 0 where
  pub wide : r ≡ 0 → (1 ≤ w) × (w ≤ 16384)
  pub high : r ≡ 0 → (1 ≤ h) × (h ≤ 16384)
  pub exact : r ≡ 0 → length picture ≡ 4 * (w * h)
  pub kept : (r ≡ 0 → ⊥) → (picture' ≡ picture) × (scratch' ≡ scratch)
