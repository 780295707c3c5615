-- One call for each point, whose numbers become words.
use mathlib.Core.Path.{◌∙◌}
use mathlib.Core.List.{[]}
use Rattle.std.proofs.Common.{rules, tests}
use Rattle.std.proofs.lemmas.Simd.{map-map}
use Rattle.picture.specs.Build.{build}
use Rattle.vector_buffers.specs.Buffers.{numbers_from}
use Rattle.vector_points.specs.Points.{point_in}
use Rattle.vector_buffers.proofs.Filled.{made_each}
use Rattle.vector_pairs.specs.Pairs.{pair_of}
use Rattle.vector_pairs.proofs.lists.pairs_from.Goals as goal

pub returns-clause-value : goal.returns-clause-value
returns-clause-value c =
    let points = c.points_from-points in
    let made = made_each [] pair_of points.result points.ensures.value_2 (λ i y q k. search (rules, tests)) c.from_fn.ensures.items in
    let numbers = numbers_from c.args.v.now c.args.at c.args.n in
    rw points.ensures.value at made ∙ map-map pair_of (point_in numbers) (build 1024 (λ i. i))
