-- What is made of a body inward is its picture.
use mathlib.Core.Path.{sym}
use mathlib.Core.Bool.{true≢false}
use native.Mathlib.Omega.{arith}
use Rattle.pixels.specs.Channels.{premultiply}
use Rattle.pam_convert.proofs.Anew.{anew_made}
use Rattle.pam_convert.proofs.bodies.read_body.Goals as goal

pub convert_body-requires : goal.convert_body-requires
convert_body-requires c = record { fact_1 = omega (arith, c.requires.fact_1.exact, c.requires.fact_2); fact_2 = omega (arith, c.requires.fact_2); fact_3 = (λ e. absurd (true≢false (sym e))) }

pub returns : goal.returns
returns c =
    anew_made premultiply c.args.size.w c.args.size.h _ c.requires.fact_2 c.convert_body.ensures
