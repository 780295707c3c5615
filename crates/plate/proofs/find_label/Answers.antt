-- Refused, and both are 0; or the entry's unit and sheet.
use mathlib.Core.Path.{ap}
use native.Mathlib.Omega.{arith}
use Rattle.std.proofs.lemmas.Result.{err_from_is_err_and}
use Rattle.picture.proofs.Refused.{call_refused}
use Rattle.plate_format.specs.declared.Entry.{Entry}
use Rattle.plate.specs.Lookup.{labelled_up_to}
use Rattle.plate.proofs.Settle.{listed, unit_named}
use Rattle.plate.proofs.find_label.Goals as goal

pub returns-in_err-entry : goal.returns-in_err-entry
unfolding labelled_up_to
returns-in_err-entry c =
    let p = err_from_is_err_and c.from_residual.result c.from_residual.ensures.1 in
    rw (p.1, p.2) (call_refused _ _ _ _ c.in_err-entry.ensures)

pub returns-in_err-unit : goal.returns-in_err-unit
returns-in_err-unit c =
    let f = c.in_ok-entry.ensures in
    let z : ⊥ = omega (arith, c.in_err-unit.ensures, ap (λ (e : Entry). e.unit) f.2, unit_named _ _ f.0 f.1) in absurd z

pub returns : goal.returns
unfolding labelled_up_to
returns c = let f = c.in_ok-entry.ensures in rw (c.in_ok-unit.ensures, f.2) (listed _ _ _ _ f.0 f.1)
