-- The opaque pixels in front and the rest are all of it.
use Rattle.pam_convert.proofs.Fronted.{left, front_anew}
use Rattle.pam_convert.proofs.bodies.convert_body.Goals as goal

pub convert-requires : goal.convert-requires
convert-requires g c = let rest = left g.W.Words.out c.copy_opaque-front.ensures c.requires.fact_2 c.requires.fact_1 c.requires.fact_3 in record { fact_1 = rest.0; fact_2 = rest.1; fact_3 = rest.2 }

pub returns : goal.returns
returns g c =
    front_anew g.W.Words.out c.copy_opaque-front.ensures c.requires.fact_2 c.requires.fact_1 _ c.convert.ensures
