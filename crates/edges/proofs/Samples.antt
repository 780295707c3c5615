-- Laws of samples: inside a sample is the line's value, and what holds of two lines holds of their samples.
use Rattle.std.proofs.Common.{◌≡◌, ℕ, ◌+◌, ◌-◌, ◌<◌, ◌≤◌, refl, ap, ◌∙◌, arith, Option, Some}
use Rattle.picture.specs.Planes.{Line}
use Rattle.picture.specs.declared.EdgeMode.{EdgeMode}
use Rattle.edges.specs.Edges.{place, value_at, sample}
use Rattle.edges.proofs.Places.{place_near, below, found_below}

-- at a coordinate inside, a sample is the line's value, whatever the edge rule
pub sample_near : (mode : EdgeMode) (s : ℕ) (line : Line) (c d i : ℕ) → c ≡ d + i → i < s → sample mode s line c d ≡ line i
unfolding sample
sample_near mode s line c d i e h =
    let at : c - d ≡ i = omega arith in
    ap (λ (p : Option ℕ). value_at p line) (place_near mode s c d (omega arith) (omega arith)) ∙ ap line at

-- what holds of 0 and of two lines at a place holds of their values there
value_relates : (R : ℕ → ℕ → Type 0) (p q : Line) (a : Option ℕ) → R 0 0 → ((i : ℕ) → a ≡ Some i → R (p i) (q i)) → R (value_at a p) (value_at a q)
value_relates R p q (Some i) z h = h i refl
value_relates R p q Option.None z h = z

module _ (mode : EdgeMode) (s : ℕ) (p q : Line) (c d : ℕ) where
  -- what holds of 0 and of two lines everywhere holds of their samples
  pub sample_relates : (R : ℕ → ℕ → Type 0) → R 0 0 → ((i : ℕ) → R (p i) (q i)) → R (sample mode s p c d) (sample mode s q c d)
  unfolding sample
  sample_relates R z h = value_relates R p q (place mode s c d) z (λ i _. h i)

  -- a larger line has larger samples
  pub sample_keeps : ((i : ℕ) → p i ≤ q i) → sample mode s p c d ≤ sample mode s q c d
  sample_keeps = sample_relates ◌≤◌ (omega arith)

  -- a sample looks only below the size
  pub sample_local : 0 < s → ((i : ℕ) → i < s → p i ≡ q i) → sample mode s p c d ≡ sample mode s q c d
  unfolding sample
  sample_local z h = value_relates ◌≡◌ p q (place mode s c d) refl (λ i e. h i (found_below (below mode s c d z) e))
