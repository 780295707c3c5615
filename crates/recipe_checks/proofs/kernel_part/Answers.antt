-- The kernel's weights lie within the table.
use Prim.Native.Nat.{◌+◌, ◌*◌, ◌≤◌}
use native.Mathlib.Nat.{add-sub_cancel_left, min-le_right}
use native.Mathlib.Omega.{arith}
use lib.ListN.{length}
use Rattle.picture.specs.Refusal.{max_taps}
use Rattle.recipe_checks.specs.Own.{kernel_of}
use Rattle.recipe_checks.proofs.Known.{inside}
use Rattle.recipe_checks.proofs.kernel_part.Goals as goal
use Rattle.recipe_checks.proofs.kernel_part.Lts as lts
use Rattle.recipe_checks.proofs.kernel_part.Reads as reads
use Rattle.recipe_checks.proofs.kernel_part.Tie as tie

abbrev the_After-min : Type 0
the_After-min = lts.After-min tie.the-claims reads.Pre reads.Post

ends-inside : (c : the_After-min) → let a = c.args in 33 * a.k + c.min.result ≤ length a.table.now
unfolding max_taps
ends-inside c =
    let a = c.args in
    omega (arith, inside (length a.table.now) a.k c.requires, c.min.ensures, min-le_right a.taps 33)

pub overflow_mul-a : goal.overflow_mul-a
overflow_mul-a c = omega (arith, c.ranges)

pub overflow_add-e : goal.overflow_add-e
overflow_add-e c = omega (arith, ends-inside c.before)

pub slice_bounds-result-end : goal.slice_bounds-result-end
slice_bounds-result-end c = ends-inside c.before

pub returns : goal.returns
unfolding kernel_of max_taps
returns c = let a = c.args in rw (add-sub_cancel_left (33 * a.k) c.min.result, c.min.ensures)
