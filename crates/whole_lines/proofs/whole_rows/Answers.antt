-- Turned or as they lie, the rows become the same.
use lib.ListN.{length}
use Rattle.picture.proofs.Conditions.{right_taps}
use Rattle.whole_lines.proofs.whole_rows.Goals as goal

pub pays-requires : goal.pays-requires
pays-requires c = (c.requires.lined.some, ((right_taps (length c.args.numerators.now)).0 c.requires.kernel.counted).low)

pub returns-else-pays : goal.returns-else-pays
returns-else-pays c = c.whole_lines.ensures
