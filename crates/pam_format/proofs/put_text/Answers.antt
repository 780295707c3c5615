-- The part from `at` on is the text, and what lies outside it is as it was.
use mathlib.Core.Path.{refl}
use lib.ListN.{length}
use Rattle.pam_format.proofs.Lines.{part_is}
use Rattle.pam_format.proofs.put_text.Goals as goal

pub returns : goal.returns
returns c =
    let a = c.args in
    (refl, part_is a.at (length a.text.now) a.text.now a.line.now _ c.copy_bytes.ensures refl)
