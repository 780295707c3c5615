-- Two taps, before and at the element or at and after it.
use mathlib.Core.List.{[], ◌∷◌}
use Prim.Native.Nat.{◌/◌}
use native.Mathlib.Omega.{arith}
use lib.ListN.{length}
use Rattle.binary32.specs.Grid.{sum}
use Rattle.exact_blur.specs.Exact.{exact_double}
use Rattle.back_passes.specs.Steps.{tap_sum}
use Rattle.back_passes.proofs.Taken.{even_taps, odd_taps, gained_as, taps_ready}
use Rattle.back_passes.proofs.back.double_output.Goals as goal

pub carry_taps-requires : goal.carry_taps-requires
unfolding sum
carry_taps-requires c =
    taps_ready c.requires (c.args.y / 2) 1 (1 ∷ 3 ∷ []) (omega arith) (omega arith) (omega arith) (omega arith)

pub carry_taps-requires-else-y-eq0 : goal.carry_taps-requires-else-y-eq0
unfolding sum
carry_taps-requires-else-y-eq0 c =
    taps_ready c.requires (c.args.y / 2) 0 (3 ∷ 1 ∷ []) (omega arith) (omega arith) (omega arith) (omega arith)

pub returns-then-y-eq0 : goal.returns-then-y-eq0
returns-then-y-eq0 c =
    let a = c.args in
    let m = length a.row.now in
    gained_as a.row.now c.carry_taps.new.row a.v (λ l. tap_sum a.mode (1 ∷ 3 ∷ []) m l (a.y / 2) 1) (λ l. exact_double a.mode m l a.y)
    (λ l. even_taps a.mode m c.requires.sized.low l a.y c.if-y-eq0.true) c.carry_taps.ensures

pub returns-else-y-eq0 : goal.returns-else-y-eq0
returns-else-y-eq0 c =
    let a = c.args in
    let m = length a.row.now in
    gained_as a.row.now c.carry_taps-else-y-eq0.new.row a.v (λ l. tap_sum a.mode (3 ∷ 1 ∷ []) m l (a.y / 2) 0) (λ l. exact_double a.mode m l a.y)
    (λ l. odd_taps a.mode m c.requires.sized.low l a.y c.if-y-eq0.false) c.carry_taps-else-y-eq0.ensures
