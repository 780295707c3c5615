-- Rows as lines.
use Rattle.std.specs.Prelude.{cond, ℕ, ◌+◌, ◌*◌, eqb}
use Rattle.decimate.specs.declared.Rows.{Rows}

-- so many rows of w elements, made v wide, as lines of w elements: a line to a row; all rows are one element where each is one and stays so
abbrev pub rows_of : ℕ → ℕ → ℕ → ℕ → Rows
rows_of w lines lanes v = cond (eqb (w + v) 2) (record { lines = 1; stride = lines * lanes }) (record { lines = lines; stride = lanes })
