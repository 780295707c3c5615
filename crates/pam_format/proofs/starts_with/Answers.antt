-- Byte by byte, the front of the file is the head.
use mathlib.Core.Path.{◌∙◌}
use Rattle.pam_format.proofs.Starts.{begins_is}
use Rattle.pam_format.proofs.starts_with.Goals as goal

pub returns : goal.returns
returns c = c.starts_with.ensures.value ∙ begins_is c.args.head.now c.args.file.now
