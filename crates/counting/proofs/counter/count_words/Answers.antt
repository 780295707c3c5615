use mathlib.Core.Path.{◌≡◌, refl}
use mathlib.Core.Bool.{Bool, cond}
use mathlib.Core.List.{List}
use Prim.Native.Nat.{ℕ, ◌+◌}
use native.Mathlib.Omega.{arith}
use lib.ListN.{get_or}
use Rattle.pixels.specs.Channels.{exceeds}
use Rattle.counting.specs.Counts.{how_many}
use Rattle.counting.specs.Words.{unpacked}
use Rattle.counting.proofs.Counted.{many_le, many_more}
use Rattle.counting.proofs.counter.count_words.Goals as goal

module _ (words : List ℕ) where
  abbrev fails : ℕ → Bool
  fails k = exceeds (unpacked (get_or words k 0))

  -- with the next one
  more : (k count one : ℕ) → count ≡ how_many fails k → one ≡ cond (fails k) 1 0 → count + one ≡ how_many fails (k + 1)
  more k count one before next = rw (many_more fails k, ← before, next)

pub loop-word-init : goal.loop-word-init
unfolding how_many
loop-word-init c = refl

pub overflow_add-count : goal.overflow_add-count
overflow_add-count c =
    let words = c.args.words.now in
    omega (arith, more words c.loop-word.word-index _ _ c.loop-word.invariant c.one_exceeding-count.ensures, many_le (fails words) (c.loop-word.word-index + 1))

pub loop-word-preserved : goal.loop-word-preserved
loop-word-preserved c = more c.args.words.now c.loop-word.word-index _ _ c.loop-word.invariant c.one_exceeding-count.ensures
