-- The library's number of four bytes is that of the definition.
use mathlib.Core.Path.{◌≡◌, ◌∙◌}
use Prim.Native.Nat.{◌+◌}
use native.Mathlib.Omega.{arith}
use Rattle.plate_numbers.specs.Numbers.{u16_at, u32_at}
use Rattle.plate_numbers.proofs.u32_at.Goals as goal

pub returns : goal.returns
unfolding u16_at u32_at
returns c =
    let third : c.args.at + 2 + 1 ≡ c.args.at + 3 = omega arith in
    rw third (c.from_le_bytes.ensures ∙ omega arith)
