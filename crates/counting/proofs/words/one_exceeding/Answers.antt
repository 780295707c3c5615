-- Each way out is one part of the definition's "or".
use borrow.Author.Tests.{lt-ltb, le-ltb}
use Rattle.pixels.specs.Channels.{exceeds}
use Rattle.counting.proofs.words.one_exceeding.Goals as goal

pub returns-then-a-word : goal.returns-then-a-word
unfolding exceeds
returns-then-a-word c = rw (lt-ltb _ _ c.if-a-word.true)

pub returns-then-a-word-2 : goal.returns-then-a-word-2
unfolding exceeds
returns-then-a-word-2 c = rw (le-ltb _ _ c.if-a-word.false, lt-ltb _ _ c.if-a-word-2.true)

pub returns-then-a-word-3 : goal.returns-then-a-word-3
unfolding exceeds
returns-then-a-word-3 c = rw (le-ltb _ _ c.if-a-word.false, le-ltb _ _ c.if-a-word-2.false, lt-ltb _ _ c.if-a-word-3.true)

pub returns : goal.returns
unfolding exceeds
returns c = rw (le-ltb _ _ c.if-a-word.false, le-ltb _ _ c.if-a-word-2.false, le-ltb _ _ c.if-a-word-3.false)
