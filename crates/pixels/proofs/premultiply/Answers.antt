-- `premultiply` meets its contract: the product of two bytes fits, with 127 more too, and a 255th of that is a byte.
use Prim.Native.Nat.{◌*◌, ◌≤◌}
use native.Mathlib.Nat.{mul-le-mul}
use native.Mathlib.Omega.{arith}
use borrow.Author.Rules.{rules}
use Rattle.pixels.specs.Channels.{premultiply}
use Rattle.pixels.proofs.premultiply.Goals as goal
use Rattle.pixels.proofs.premultiply.Goals.{After-wide-2}

fits : (c : After-wide-2) → c.wide.result * c.wide-2.result ≤ 65025
fits c = mul-le-mul {n₁ = c.wide.result} {m₁ = c.wide-2.result} {n₂ = 255} {m₂ = 255} (omega arith) (omega arith)

pub overflow_mul-result : goal.overflow_mul-result
overflow_mul-result c = let f = fits c in search rules

pub overflow_add-result : goal.overflow_add-result
overflow_add-result c = let f = fits c in search rules

pub overflow_cast-result : goal.overflow_cast-result
overflow_cast-result c = let f = fits c in omega arith

pub returns : goal.returns
unfolding premultiply
returns c = rw (c.wide.ensures, c.wide-2.ensures)
