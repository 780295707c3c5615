-- One more than a side fits: a level's sides have room.
use native.Mathlib.Omega.{arith}
use borrow.Author.Rules.{rules}
use Rattle.picture.proofs.Sizes.{room_is}
use Rattle.picture.proofs.LevelSize.half.Goals as goal

pub overflow_add-result : goal.overflow_add-result
overflow_add-result c = omega (arith, c.requires.w_high, room_is)

pub overflow_add-result-2 : goal.overflow_add-result-2
overflow_add-result-2 c = omega (arith, c.requires.h_high, room_is)

pub returns : goal.returns
returns c = search rules
