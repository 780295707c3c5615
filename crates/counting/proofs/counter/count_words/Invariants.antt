-- The words before the next one are counted.
use mathlib.Core.Path.{◌≡◌}
use lib.ListN.{get_or}
use Rattle.pixels.specs.Channels.{exceeds}
use Rattle.counting.specs.Counts.{how_many}
use Rattle.counting.specs.Words.{unpacked}
use Rattle.counting.proofs.counter.count_words.Given as goal

abbrev pub invariant-loop-word : goal.invariant-loop-word
invariant-loop-word l = l.count ≡ how_many (λ j. exceeds (unpacked (get_or l.words j 0))) l.word-index
