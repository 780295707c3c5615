-- `src_over_channel` meets its contract: the binary32 rule is this in whole numbers, and each sum fits.
use mathlib.Core.Path.{◌≡◌}
use Prim.Native.Nat.{◌+◌, ◌-◌, ◌*◌, ◌/◌, ◌≤◌, min}
use native.Mathlib.Nat.{mul-le-mul}
use native.Mathlib.Omega.{arith}
use borrow.Author.Rules.{rules}
use Rattle.composite.specs.Channels.{over}
use Rattle.composite.proofs.Whole.{over_is}
use Rattle.composite.proofs.src_over_channel.Goals as goal
use Rattle.composite.proofs.src_over_channel.Goals.{After-wide-3}

-- the product fits, and the sum is `over` where it is held at 255
known : (c : After-wide-3) →
    let d = c.wide-2.result in
    let e = 255 - c.wide-3.result in
    let s = c.args in
    (d * e ≤ 65025) × (over s.src s.dst s.alpha ≡ min 255 (c.wide.result + (d * e + 127) / 255))
known c =
    let s = c.args in (
      mul-le-mul {n₁ = c.wide-2.result} {m₁ = 255 - c.wide-3.result} {n₂ = 255} {m₂ = 255} (omega arith) (omega arith),
      rw (c.wide.ensures, c.wide-2.ensures, c.wide-3.ensures) (over_is s.src s.dst s.alpha (omega arith) (omega arith) (omega arith)),
    )

pub overflow_mul-sum : goal.overflow_mul-sum
overflow_mul-sum c = let k = known c in search rules

pub overflow_add-sum : goal.overflow_add-sum
overflow_add-sum c = let k = known c in search rules

pub overflow_add-sum-2 : goal.overflow_add-sum-2
overflow_add-sum-2 c = let k = known c in omega arith

pub returns : goal.returns
returns c = let k = known c.before in omega arith
