-- Each turn blends a lane of the two elements, which are doubling's samples, into both outputs.
use mathlib.Core.List.{List}
use Prim.Native.Nat.{ℕ, ◌+◌}
use Rattle.passes.specs.Written.{lane}
use Rattle.blend.specs.Blend.{mix}
use Rattle.blend.proofs.Pairs.{Pair}
use Rattle.blend.proofs.double_lanes.Given as goal

-- lane k of the two outputs between elements x and x + 1
abbrev pub odd : List ℕ → ℕ → ℕ → ℕ → ℕ → ℕ
odd src start stride x k = let line = lane src start stride k in mix (line (x + 1)) (line x) (line x) (line (x + 1))

abbrev pub even : List ℕ → ℕ → ℕ → ℕ → ℕ → ℕ
even src start stride x k = let line = lane src start stride k in mix (line x) (line (x + 1)) (line (x + 1)) (line x)

abbrev pub invariant-loop-k : goal.invariant-loop-k
invariant-loop-k l = Pair l.initial.dst l.dst l.a l.b l.k (odd l.src l.start l.stride l.x) (even l.src l.start l.stride l.x)
