-- An output of a pass is what stands at four places, blended.
use Rattle.std.proofs.Common.{Option}
use mathlib.Core.Path.{◌≡◌}
use mathlib.Core.Bool.{cond}
use Prim.Native.Nat.{ℕ, zero, suc, ◌+◌, ◌-◌, ◌*◌, ◌/◌, ◌%◌, ◌<◌}
use native.Mathlib.Nat.{add-zero}
use native.Mathlib.Omega.{arith}
use lib.Dec.{eqb}
use Rattle.picture.specs.Planes.{Line}
use Rattle.picture.specs.declared.EdgeMode.{EdgeMode}
use Rattle.edges.specs.Edges.{place, sample}
use Rattle.passes.specs.Passes.{halve, double}
use Rattle.blend.specs.Blend.{mix, mix_at}
use Rattle.blend.proofs.Places.{inside}

-- of the samples
module _ (mode : EdgeMode) (s : ℕ) (line : Line) where
  -- the sample before x for an even output, the one after it for an odd one
  doubles : (y : ℕ) →
      let far = sample mode s line (y / 2 + y % 2) (1 - y % 2) in
      let near = sample mode s line (y / 2) 0 in
      mix far near near far ≡ double mode s line y
  unfolding double
  doubles y = by (y / 2) (y % 2) (omega arith)
    where
      by : (x r : ℕ) → r < 2 →
          let far = sample mode s line (x + r) (1 - r) in
          let near = sample mode s line x 0 in
          mix far near near far ≡ cond (eqb r 0) ((sample mode s line x 1 + 3 * near + 2) / 4) ((3 * near + sample mode s line (x + 1) 0 + 2) / 4)
      by x zero l = rw add-zero (omega arith)
      by x (suc zero) l = omega arith
      by x (suc (suc r)) l = absurd (omega arith)

-- of the places
module _ (mode : EdgeMode) (s x : ℕ) (line : Line) {a b c d : Option ℕ} where
  pub halved : a ≡ place mode s (2 * x) 1 → b ≡ place mode s (2 * x) 0 → c ≡ place mode s (2 * x + 1) 0 → d ≡ place mode s (2 * x + 2) 0 →
      mix_at a b c d line ≡ halve mode s line x
  unfolding halve sample
  halved ea eb ec ed = rw (ea, eb, ec, ed)

module _ (mode : EdgeMode) (s y : ℕ) (line : Line) {a b : Option ℕ} where
  pub doubled : a ≡ place mode s (y / 2 + y % 2) (1 - y % 2) → b ≡ place mode s (y / 2) 0 → mix_at a b b a line ≡ double mode s line y
  unfolding sample
  doubled far near = rw (far, near) (doubles mode s line y)

-- where the samples lie inside, the line's own elements are blended, whatever the edge rule
module _ (mode : EdgeMode) (s x : ℕ) (line : Line) where
  pub halved_inside : 0 < x → 2 * x + 2 < s → mix (line (2 * x - 1)) (line (2 * x)) (line (2 * x + 1)) (line (2 * x + 2)) ≡ halve mode s line x
  halved_inside z l =
      halved mode s x line
      (inside mode s (2 * x) 1 (2 * x - 1) (omega arith) (omega arith))
      (inside mode s (2 * x) 0 (2 * x) (omega arith) (omega arith))
      (inside mode s (2 * x + 1) 0 (2 * x + 1) (omega arith) (omega arith))
      (inside mode s (2 * x + 2) 0 (2 * x + 2) (omega arith) (omega arith))

  -- the two outputs between elements x and x + 1
  pub odd_inside : x + 1 < s → mix (line (x + 1)) (line x) (line x) (line (x + 1)) ≡ double mode s line (2 * x + 1)
  odd_inside l =
      doubled mode s (2 * x + 1) line (inside mode s _ _ (x + 1) (omega arith) l) (inside mode s _ 0 x (omega arith) (omega arith))

  pub even_inside : x + 1 < s → mix (line x) (line (x + 1)) (line (x + 1)) (line x) ≡ double mode s line (2 * x + 2)
  even_inside l =
      doubled mode s (2 * x + 2) line (inside mode s _ _ x (omega arith) (omega arith)) (inside mode s _ 0 (x + 1) (omega arith) l)
