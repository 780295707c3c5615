-- The version, and after it the count, at the buffer's start.
use mathlib.Core.Path.{◌∙◌}
use native.Mathlib.Omega.{arith}
use Rattle.plate_written.specs.Written.{bytes16, header_bytes}
use Rattle.plate_table.proofs.Laid.{laid_first, laid_then}
use Rattle.plate_table.proofs.fields.put_header.Goals as goal

pub returns : goal.returns
unfolding bytes16 header_bytes
returns c = laid_then _ _ _ _ _ c.put_u16.ensures c.put_u16-2.ensures (omega arith) (omega arith) ∙ laid_first _ _
