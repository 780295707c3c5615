-- Either way it is the definition's.
use borrow.Author.Tests.{eq-eqb, ne_eqb}
use Rattle.counting.proofs.none.over_first.Goals as goal

pub returns-then-j-eq0 : goal.returns-then-j-eq0
returns-then-j-eq0 c = rw (eq-eqb _ 0 c.if-j-eq0.true, c.over-o.ensures)

pub returns : goal.returns
returns c = rw (ne_eqb _ 0 c.if-j-eq0.false)
