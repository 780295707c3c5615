-- The columns that are set to zero are those where x - dx does not lie inside.
use native.Mathlib.Omega.{arith}
use Rattle.shift.specs.Bytes.{along}
use Rattle.shift.proofs.Exposed.{first_columns, last_columns, no_columns}
use Rattle.shift.proofs.clear_exposed.Goals as goal

pub returns-then-dx-gt0 : goal.returns-then-dx-gt0
returns-then-dx-gt0 c =
    let a = c.args in
    rw c.clear_columns.ensures (first_columns (along a.dx) a.w a.bytes.now (omega arith) (omega arith))

pub returns-then-dx-gt0-2 : goal.returns-then-dx-gt0-2
returns-then-dx-gt0-2 c =
    let a = c.args in
    rw c.clear_columns-then-dx-gt0-2.ensures (last_columns (along a.dx) a.w a.bytes.now (omega arith) (omega arith))

pub returns-else-dx-gt0-2 : goal.returns-else-dx-gt0-2
returns-else-dx-gt0-2 c = let a = c.args in no_columns (along a.dx) a.w a.bytes.now (omega arith) (omega arith) (omega arith)
