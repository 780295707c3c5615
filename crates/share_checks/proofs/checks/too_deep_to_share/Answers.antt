-- The test is the definition's.
use mathlib.Core.Path.{refl}
use Rattle.share_checks.specs.Checks.{max_share_depth, too_deep_to_share}
use Rattle.share_checks.proofs.checks.too_deep_to_share.Goals as goal

pub returns : goal.returns
unfolding max_share_depth too_deep_to_share
returns c = refl
