-- `shadow_alpha` meets its contract: its operations are the definition's, and what they give is from 0 to 1.
use mathlib.Core.Path.{◌≡◌, ◌∙◌, ap}
use native.Mathlib.Omega.{arith}
use lib.Ieee.{Float, binary32, mul}
use Rattle.composite.specs.Channels.{norm, norm_byte, at_most_one, shadow_alpha}
use Rattle.composite.proofs.Units.{alpha_asks}
use Rattle.composite.proofs.shadow_alpha.Goals as goal
use Rattle.composite.proofs.shadow_alpha.Goals.{After-at_most_one}

is : (c : After-at_most_one) → let s = c.args in c.at_most_one.result ≡ at_most_one (mul binary32 (norm s.alpha) s.colour)
is c = c.at_most_one.ensures ∙ ap (λ (x : Float). at_most_one (mul binary32 x c.args.colour)) c.norm.ensures

pub norm_to_u8-requires : goal.norm_to_u8-requires
norm_to_u8-requires c = rw (is c) (alpha_asks c.args.alpha c.args.colour (omega arith) c.requires)

pub returns : goal.returns
unfolding shadow_alpha
returns c = c.norm_to_u8.ensures ∙ ap norm_byte (is c.before)
