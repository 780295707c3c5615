-- The four bytes of the two reads are halving's samples.
use mathlib.Core.Path.{◌≡◌, ◌∙◌}
use mathlib.Core.List.{List}
use Prim.Native.Nat.{ℕ, ◌+◌, ◌-◌, ◌*◌}
use native.Mathlib.Omega.{arith}
use lib.ListN.{get_or}
use Rattle.picture.proofs.Spans.{span_none, span_more}
use Rattle.passes.specs.Passes.{halve}
use Rattle.passes.specs.Written.{lane}
use Rattle.passes.proofs.Written.{element_made}
use Rattle.blend.specs.Blend.{mix}
use Rattle.blend.proofs.Outputs.{halved_inside}
use Rattle.blend.proofs.halve_byte.Goals as goal

-- element i of a line of bytes
element : (src : List ℕ) (start i j : ℕ) → j ≡ start + i → get_or src j 0 ≡ lane src start 1 0 i
element src start i j e = let at : j ≡ start + i * 1 + 0 = omega arith in rw at

pub returns : goal.returns
returns c =
    let a = c.args in
    let src = a.src.now in
    let x = a.x in
    let line = lane src a.start 1 0 in
    let sample = element src a.start in
    let mixed : c.blend.result ≡ mix (line (2 * x - 1)) (line (2 * x)) (line (2 * x + 1)) (line (2 * x + 2)) =
    omega (arith, sample (2 * x - 1) (a.start + 2 * x - 1) (omega arith), sample (2 * x) (a.start + 2 * x - 1 + 1) (omega arith), sample (2 * x + 1) (a.start + 2 * x + 1) (omega arith), sample (2 * x + 2) (a.start + 2 * x + 1 + 1) (omega arith)) in
    λ mode.
    element_made (halve mode) src a.start a.len 1 x
    (span_more {b = 0} (span_none (omega arith)) (omega arith) (omega arith) (omega arith) (mixed ∙ halved_inside mode a.len x line c.requires.0 c.requires.1))
