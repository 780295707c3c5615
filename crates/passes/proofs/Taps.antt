-- Laws of the taps of a convolution: how many there are, and how large the samples that they read.
use mathlib.Core.Path.{◌≡◌}
use mathlib.Core.Bool.{false}
use Prim.Native.Nat.{ℕ, ◌≤◌, ◌<◌}
use native.Mathlib.Omega.{arith}
use Rattle.picture.specs.Planes.{Line}
use Rattle.picture.specs.Refusal.{max_taps, wrong_taps}
use Rattle.picture.specs.declared.EdgeMode.{EdgeMode}
use Rattle.picture.proofs.Conditions.{right_taps}
use Rattle.edges.specs.Edges.{sample}
use Rattle.edges.proofs.Samples.{sample_relates}

-- there are some taps, and far fewer than arithmetic has room for
pub few_taps : (taps : ℕ) → wrong_taps taps ≡ false → (0 < taps) × (taps ≤ 1024)
unfolding max_taps
few_taps taps e = let c = (right_taps taps).0 e in (c.low, omega (arith, c.high))

-- a line with no value above k has no sample above it
pub sample_most : (mode : EdgeMode) (line : Line) (k : ℕ) → ((i : ℕ) → line i ≤ k) → (s c d : ℕ) → sample mode s line c d ≤ k
sample_most mode line k all s c d = sample_relates mode s line line c d (λ v _. v ≤ k) (omega arith) all
