-- The first k words are made anew, and the others are as they were.
use mathlib.Core.Path.{◌≡◌}
use mathlib.Core.List.{◌++◌}
use lib.ListN.{length, get_or, drop}
use Rattle.picture.specs.Build.{build}
use Rattle.pam_convert.specs.Straight.{new_word}
use Rattle.pam_convert.proofs.words.new_words.Given as goal

abbrev pub invariant-loop-k : goal.invariant-loop-k
invariant-loop-k g l = (l.words ≡ build l.k (λ j. new_word g.W.Words.out (get_or l.initial.words j 0)) ++ drop l.k l.initial.words) × (length l.words ≡ length l.initial.words)
