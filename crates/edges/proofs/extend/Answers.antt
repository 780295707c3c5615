-- Each arm's call answers the definition's arm of the same mode.
use Rattle.std.proofs.Common.{sym}
use Rattle.edges.proofs.extend.Goals as goal

pub returns-in-Duplicate : goal.returns-in-Duplicate
returns-in-Duplicate c = simp c.in-Duplicate.is (sym c.nearest.ensures)

pub returns-in-Wrap : goal.returns-in-Wrap
returns-in-Wrap c = simp c.in-Wrap.is (sym c.wrapped.ensures)

pub returns-in-Mirror : goal.returns-in-Mirror
returns-in-Mirror c = simp c.in-Mirror.is (sym c.mirrored.ensures)

pub returns-in-None : goal.returns-in-None
returns-in-None c = simp c.in-None.is (sym c.held.ensures)
