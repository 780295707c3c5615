-- Each way out is what Mirror reads: the coordinate inside, the near one, or the reflected remainder.
use Rattle.std.proofs.Common.{mod-lt, arith}
use Rattle.picture.specs.declared.EdgeMode.TheVariants.{Mirror}
use Rattle.picture.proofs.Sizes.{room_is}
use Rattle.edges.specs.Edges.{place}
use Rattle.edges.proofs.Places.{place_inside}
use Rattle.edges.proofs.mirrored.Goals as goal

pub returns-then-i-s : goal.returns-then-i-s
returns-then-i-s c =
    let a = c.args in
    place_inside Mirror a.s a.c a.d a.i c.requires.fact_1 c.requires.fact_2 (omega arith)

pub returns-then-near-s : goal.returns-then-near-s
returns-then-near-s c = c.mirror_near-near.ensures (omega arith)

pub overflow_mul-s : goal.overflow_mul-s
overflow_mul-s c = omega (arith, room_is)

pub reflected-requires : goal.reflected-requires
reflected-requires c = (rw c.modulo.ensures (mod-lt _ (omega arith)), omega arith)

pub returns : goal.returns
unfolding place
returns c = rw c.modulo.ensures at c.reflected.ensures
