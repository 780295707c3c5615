-- What is made of a picture outward is its body.
use native.Mathlib.Omega.{arith}
use Rattle.grading.proofs.Scanned.{passes_at}
use Rattle.unmultiply.specs.Outward.{outward}
use Rattle.pam_convert.proofs.Anew.{anew_made}
use Rattle.pam_convert.proofs.bodies.write_body.Goals as goal

pub convert_body-requires : goal.convert_body-requires
convert_body-requires c = record { fact_1 = omega (arith, c.requires.fact_1.whole.exact, c.requires.fact_2); fact_2 = omega (arith, c.requires.fact_2); fact_3 = (λ e i l. passes_at _ c.args.size.w c.args.size.h c.requires.fact_1.scan i (omega (arith, c.requires.fact_1.whole.exact))) }

pub returns : goal.returns
returns c =
    anew_made outward c.args.size.w c.args.size.h _ c.requires.fact_2 c.convert_body.ensures
