-- Each kind of pass reads taps: the halving four, the doubling two, the convolution its numerators.
use mathlib.Core.Path.{◌≡◌, sym, subst}
use mathlib.Core.List.{List, [], ◌∷◌}
use Prim.Native.Nat.{ℕ, ◌*◌, ◌/◌}
use native.Mathlib.Omega.{arith}
use lib.ListN.{length}
use Rattle.picture.proofs.Sizes.{room_is}
use Rattle.binary32.specs.Grid.{sum}
use Rattle.exact_blur.specs.Exact.{exact_halve, exact_convolve}
use Rattle.back_passes.specs.Worth.{Gained}
use Rattle.back_passes.specs.Steps.{tap_sum, exact_pass, OutputReady}
use Rattle.back_passes.specs.declared.back.PassKind.{PassKind}
use Rattle.back_passes.proofs.Taken.{halve_taps, convolve_taps, gained_as, taps_ready}
use Rattle.back_passes.proofs.back.carry_output.Goals as goal
use Rattle.back_passes.proofs.back.carry_output.Goals.{Start}

pub overflow_mul-x : goal.overflow_mul-x
overflow_mul-x c = omega (arith, c.requires.far, room_is)

-- what is asked of the kind that it was
ready : (s : Start) {kind : PassKind} → s.args.kind ≡ kind → OutputReady kind s.args.row.now s.args.x s.args.v s.args.numerators.now
ready s e = subst (λ (k : PassKind). OutputReady k s.args.row.now s.args.x s.args.v s.args.numerators.now) e s.requires

pub carry_taps-requires : goal.carry_taps-requires
unfolding sum
carry_taps-requires c =
    let s = (goal.at.carry_taps-requires c).Start in
    taps_ready (ready s c.in-Halve.is) (2 * c.args.x) 1 (1 ∷ 3 ∷ 3 ∷ 1 ∷ []) (omega arith) (omega arith) (omega arith) (omega arith)

pub carry_taps-requires-in-Convolve : goal.carry_taps-requires-in-Convolve
carry_taps-requires-in-Convolve c =
    let s = (goal.at.carry_taps-requires-in-Convolve c).Start in
    let few = c.requires.kernel.few in
    taps_ready (ready s c.in-Convolve.is) c.args.x (length c.args.numerators.now / 2) c.args.numerators.now (omega arith) (omega arith) few c.requires.kernel.light

-- what was gained is what the kind's pass says
as-kind : (s : Start) {kind : PassKind} (row' : List ℕ) → s.args.kind ≡ kind →
    let a = s.args in
    Gained a.row.now row' (λ l. a.v * exact_pass kind a.mode a.numerators.now (length a.row.now) l a.x) →
    Gained a.row.now row' (λ l. a.v * exact_pass a.kind a.mode a.numerators.now (length a.row.now) l a.x)
as-kind s row' e h =
    let a = s.args in
    subst (λ (k : PassKind). Gained a.row.now row' (λ l. a.v * exact_pass k a.mode a.numerators.now (length a.row.now) l a.x)) (sym e) h

pub returns-in-Halve : goal.returns-in-Halve
returns-in-Halve c =
    let s = (goal.at.returns-in-Halve c).Start in
    let a = c.args in
    let m = length a.row.now in
    as-kind s c.carry_taps.new.row c.in-Halve.is
    (gained_as a.row.now c.carry_taps.new.row a.v (λ l. tap_sum a.mode (1 ∷ 3 ∷ 3 ∷ 1 ∷ []) m l (2 * a.x) 1) (λ l. exact_halve a.mode m l a.x)
    (λ l. halve_taps a.mode m c.requires.sized.low l a.x) c.carry_taps.ensures)

pub returns-in-Convolve : goal.returns-in-Convolve
returns-in-Convolve c =
    let s = (goal.at.returns-in-Convolve c).Start in
    let a = c.args in
    let m = length a.row.now in
    let ms = a.numerators.now in
    as-kind s c.carry_taps-in-Convolve.new.row c.in-Convolve.is
    (gained_as a.row.now c.carry_taps-in-Convolve.new.row a.v (λ l. tap_sum a.mode ms m l a.x (length ms / 2)) (λ l. exact_convolve a.mode ms m l a.x)
    (λ l. convolve_taps a.mode m c.requires.sized.low l ms a.x) c.carry_taps-in-Convolve.ensures)
