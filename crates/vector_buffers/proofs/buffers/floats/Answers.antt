-- One call for each place, whose number becomes a float.
use Rattle.std.proofs.Common.{rules, tests}
use Rattle.vector_values.specs.Values.{float_of}
use Rattle.vector_buffers.specs.Buffers.{number_at}
use Rattle.vector_buffers.proofs.Filled.{made_rule}
use Rattle.vector_buffers.proofs.buffers.floats.Goals as goal

pub returns-clause-value : goal.returns-clause-value
returns-clause-value c =
    let s = c.args in
    made_rule float_of (number_at s.v.now s.p.before s.p.count) (λ i y q k. search (rules, tests)) c.from_fn.ensures.items
