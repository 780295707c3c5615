use native.Mathlib.Omega.{arith}
use Rattle.vector_values.proofs.Numerals.{past_line, line_more, line_stops}
use Rattle.vector_values.proofs.text.line_end.Goals as goal

pub returns-then-text-i-eq10-clause-value : goal.returns-then-text-i-eq10-clause-value
returns-then-text-i-eq10-clause-value c = omega (arith, line_stops c.args.text.now c.loop-i.i (omega arith) c.if-text-i-eq10.true)

pub loop-i-preserved : goal.loop-i-preserved
loop-i-preserved c =
    let m = line_more c.args.text.now c.loop-i.i (omega arith) c.if-text-i-eq10.false in
    omega arith

pub returns-clause-value : goal.returns-clause-value
returns-clause-value c = omega (arith, past_line c.args.text.now c.loop-i.i (omega arith))
