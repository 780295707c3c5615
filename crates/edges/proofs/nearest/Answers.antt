-- Each way out is one arm of the definition's two tests.
use Rattle.std.proofs.Common.{true, false, arith, le-ltb, lt-ltb}
use Rattle.picture.specs.declared.EdgeMode.TheVariants.{Duplicate}
use Rattle.edges.specs.Edges.{place}
use Rattle.edges.proofs.Places.{place_inside, inside_or_lem}
use Rattle.edges.proofs.nearest.Goals as goal

pub returns-then-i-s : goal.returns-then-i-s
returns-then-i-s c =
    let a = c.args in
    place_inside Duplicate a.s a.c a.d a.i c.requires.fact_1 c.requires.fact_2 (omega arith)

pub returns-then-c-d : goal.returns-then-c-d
unfolding place
returns-then-c-d c =
    let a = c.args in
    inside_or_lem _ _ a.s a.c a.d a.i true c.requires.fact_2 (omega arith) (omega arith) (lt-ltb a.c a.d (omega arith))

pub returns-else-c-d : goal.returns-else-c-d
unfolding place
returns-else-c-d c =
    let a = c.args in
    inside_or_lem _ _ a.s a.c a.d a.i false c.requires.fact_2 (omega arith) (omega arith) (le-ltb a.c a.d (omega arith))
