-- One call for each place.
use Rattle.std.proofs.Common.{rules, tests}
use Rattle.vector_buffers.specs.Buffers.{work_byte}
use Rattle.vector_buffers.proofs.Filled.{made_build}
use Rattle.vector_buffers.proofs.buffers.work.Goals as goal

pub returns-clause-value : goal.returns-clause-value
returns-clause-value c = made_build (work_byte c.args.zeros) (λ i y q k. search (rules, tests)) c.from_fn.ensures.items
