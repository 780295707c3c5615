-- The pixels of whole blocks and those of the rest are all.
use mathlib.Core.Path.{◌≡◌, ap}
use Prim.Native.Nat.{◌+◌, ◌-◌, ◌*◌, ◌/◌}
use native.Mathlib.Omega.{arith}
use Rattle.pixels.specs.Channels.{exceeds_at}
use Rattle.counting.specs.Counts.{how_many}
use Rattle.counting.proofs.Counted.{many_le, many_split}
use Rattle.counting.proofs.counter.count_exceeding.Goals as goal
use Rattle.counting.proofs.counter.count_exceeding.Goals.{After-count_rest}

both : (c : After-count_rest) →
    let a = c.args in
    c.count_blocks.result + c.count_rest.result ≡ how_many (exceeds_at a.picture.now) a.n
both c =
    let a = c.args in
    let whole = a.n / 32 * 32 in
    let all : whole + (a.n - whole) ≡ a.n = omega arith in
    rw (c.count_blocks.ensures, c.count_rest.ensures, ← many_split (exceeds_at a.picture.now) whole (a.n - whole)) (ap (how_many (exceeds_at a.picture.now)) all)

pub overflow_add-result : goal.overflow_add-result
overflow_add-result c =
    let a = c.args in
    omega (arith, both (goal.at.overflow_add-result c).After-count_rest, many_le (exceeds_at a.picture.now) a.n)

pub returns : goal.returns
returns c = both (goal.at.returns c).After-count_rest
