-- The test is that of a coordinate inside.
use Rattle.std.proofs.Common.{arith}
use Rattle.picture.specs.declared.EdgeMode.TheVariants.{None}
use Rattle.edges.proofs.Places.{place_inside, place_none}
use Rattle.edges.proofs.held.Goals as goal

pub returns-then-i-s : goal.returns-then-i-s
returns-then-i-s c =
    let a = c.args in
    place_inside None a.s a.c a.d a.i c.requires.fact_1 c.requires.fact_2 (omega arith)

pub returns-else-i-s : goal.returns-else-i-s
returns-else-i-s c =
    let a = c.args in
    place_none a.s a.c a.d a.i c.requires.fact_2 (omega arith) (omega arith)
