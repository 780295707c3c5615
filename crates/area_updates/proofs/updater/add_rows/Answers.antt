use Rattle.std.proofs.Common.{◌+◌, ◌*◌, ◌<◌, ◌≤◌, length, arith}
use Rattle.area.specs.Area.{gained}
use Rattle.area.proofs.Entries.{rows_in, row_ends}
use Rattle.area_updates.proofs.Gains.{rows_above, row_gains}
use Rattle.area.proofs.Laid.{rows_laid}
use Rattle.area_updates.proofs.updater.add_rows.Goals as goal
use Rattle.area_updates.proofs.updater.add_rows.Goals.{In-loop-j}

pub loop-j-init : goal.loop-j-init
loop-j-init c =
    let a = c.args in
    rows_above a.table.now c.width-w.result a.x a.y a.gain (omega (arith, c.width-w.ensures))

-- the row that is next ends where the table does, at the latest
ends : (c : In-loop-j) →
    c.loop-j.j * c.width-w.result + c.width-w.result ≤ length c.args.table.now
ends c =
    let j = c.loop-j.j in
    omega (arith, rows_in c.width-w.ensures c.height-h.ensures (j + 1) (omega arith), row_ends c.width-w.result j)

-- the column lies in the row
column : (c : In-loop-j) → c.args.x < c.width-w.result
column c = omega (arith, c.width-w.ensures)

pub overflow_mul-row : goal.overflow_mul-row
overflow_mul-row c = record { fits = omega (arith, ends c) }

pub overflow_add-row : goal.overflow_add-row
overflow_add-row c = let at = (goal.at.overflow_add-row c).In-loop-j in record { fits = omega (arith, ends at, column at) }

pub overflow_add-row-in-loop-j : goal.overflow_add-row-in-loop-j
overflow_add-row-in-loop-j c = record { fits = omega (arith, ends (goal.at.overflow_add-row-in-loop-j c).In-loop-j) }

pub add_run-requires : goal.add_run-requires
add_run-requires c = let at = (goal.at.add_run-requires c).In-loop-j in record { fact_1 = omega (arith, column at); fact_2 = omega (arith, ends at) }

pub loop-j-preserved : goal.loop-j-preserved
loop-j-preserved c =
    let at = (goal.at.loop-j-preserved c).In-loop-j in
    let l = c.loop-j in
    let a = c.args in
    row_gains a.table.now c.width-w.result a.x a.y a.gain l.j (column at) (omega arith) l.invariant c.add_run.ensures

pub returns : goal.returns
returns c =
    let l = c.loop-j in
    let a = c.args in
    rows_laid (λ w k. gained a.table.now w a.x a.y a.gain k) a.table.now l.table l.j
    c.width-w.ensures
    c.height-h.ensures
    (omega (arith, c.height-h.ensures))
    c.requires.fact_2
    l.invariant
