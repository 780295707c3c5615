-- One more than a side fits: a level's side has room.
use native.Mathlib.Omega.{arith}
use borrow.Author.Rules.{rules}
use Rattle.picture.proofs.Sizes.{room_is}
use Rattle.backwards.proofs.side.LevelSide.half.Goals as goal

pub overflow_add-result : goal.overflow_add-result
overflow_add-result c = omega (arith, c.requires, room_is)

pub returns : goal.returns
returns c = search rules
