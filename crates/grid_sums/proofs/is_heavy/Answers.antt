use mathlib.Core.Path.{◌≡◌, sym}
use native.Mathlib.Omega.{arith}
use borrow.Author.Tests.{lt-ltb, le-ltb}
use lib.ListN.{drop, drop_of_length-le}
use Rattle.binary32.specs.Grid.{sum}
use Rattle.grid_sums.specs.Sums.{heavy}
use Rattle.grid_sums.proofs.Sums.{sum_rest}
use Rattle.grid_sums.proofs.is_heavy.Goals as goal

pub overflow_cast-total : goal.overflow_cast-total
overflow_cast-total c = omega (arith, c.type_inv.numerators c.loop-numerator.numerator-index)

pub overflow_add-total : goal.overflow_add-total
overflow_add-total c = omega (arith, c.type_inv.numerators c.loop-numerator.numerator-index)

pub returns-then-total-gt65536 : goal.returns-then-total-gt65536
unfolding heavy
returns-then-total-gt65536 c =
    let ms = c.args.numerators.now in
    sym (lt-ltb 65536 (sum ms) (omega (arith, sum_rest ms c.loop-numerator.numerator-index (omega arith))))

pub loop-numerator-preserved : goal.loop-numerator-preserved
loop-numerator-preserved c =
    omega (arith, sum_rest c.args.numerators.now c.loop-numerator.numerator-index (omega arith))

pub returns : goal.returns
unfolding heavy sum
returns c =
    let ms = c.args.numerators.now in
    let rest : sum (drop c.loop-numerator.numerator-index ms) ≡ 0 = rw (drop_of_length-le ms {i = c.loop-numerator.numerator-index} (omega arith)) in
    sym (le-ltb 65536 (sum ms) (omega arith))
