-- One call for each place.
use Rattle.std.proofs.Common.{rules, tests}
use Rattle.vector_points.specs.Points.{point_in}
use Rattle.vector_buffers.proofs.Filled.{made_places}
use Rattle.vector_points.proofs.points_from.Goals as goal

pub returns-clause-value : goal.returns-clause-value
returns-clause-value c =
    let made = made_places (point_in c.numbers_from-numbers.result) (λ i y q k. search (rules, tests)) c.from_fn.ensures.items in
    rw c.numbers_from-numbers.ensures.value at made
