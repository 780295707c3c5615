-- Refused, and nothing is found; or the entry gives the picture's sides and stretch.
use Rattle.std.proofs.lemmas.Result.{err_from_is_err_and}
use Rattle.picture.proofs.Refused.{call_refused}
use Rattle.plate_format.proofs.Rules.{plate_entry}
use Rattle.plate.specs.Lookup.{looked_up_to}
use Rattle.plate.proofs.Settle.{there}
use Rattle.plate.proofs.find_picture.Goals as goal

pub returns-in_err-entry : goal.returns-in_err-entry
unfolding looked_up_to
returns-in_err-entry c =
    let p = err_from_is_err_and c.from_residual.result c.from_residual.ensures.1 in
    rw (p.1, p.2) (call_refused _ _ _ _ c.in_err-entry.ensures)

pub full_size-requires : goal.full_size-requires
full_size-requires c = let f = c.in_ok-entry.ensures in rw f.2 (plate_entry _ f.0 _ f.1).sides

pub returns : goal.returns
returns c =
    let f = c.in_ok-entry.ensures in
    rw (c.full_size.ensures, f.2, (plate_entry _ f.0 _ f.1).starts) (there _ _ f.0 f.1)
