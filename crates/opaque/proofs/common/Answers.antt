use native.Mathlib.Nat.{le_trans}
use borrow.Author.Count.{below_more}
use lib.Bits.{and_le_l, and_le_r}
use Rattle.opaque.proofs.common.Goals as goal

pub loop-word-preserved : goal.loop-word-preserved
loop-word-preserved c =
    let all = c.loop-word.all in
    below_more _ _ (λ j l. le_trans (and_le_l all _) (c.loop-word.invariant j l)) (and_le_r all _)
