-- Each way out is what Wrap reads: the coordinate inside, the near one, or the remainder.
use Rattle.std.proofs.Common.{sym, ap, arith, Some}
use Rattle.picture.specs.declared.EdgeMode.TheVariants.{Wrap}
use Rattle.edges.specs.Edges.{place}
use Rattle.edges.proofs.Places.{place_inside}
use Rattle.edges.proofs.wrapped.Goals as goal

pub returns-then-i-s : goal.returns-then-i-s
returns-then-i-s c =
    let a = c.args in
    place_inside Wrap a.s a.c a.d a.i c.requires.fact_1 c.requires.fact_2 (omega arith)

pub returns-then-near-s : goal.returns-then-near-s
returns-then-near-s c = c.wrap_near-near.ensures (omega arith)

pub returns : goal.returns
unfolding place
returns c = sym (ap Some c.modulo.ensures)
