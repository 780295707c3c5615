-- The element that the coordinate reads is worth more.
use mathlib.Core.Path.{◌∙◌, sym}
use Rattle.edges.proofs.Places.{below, found_below}
use Rattle.back_passes.proofs.Taken.{none_left, tap_in, tap_out}
use Rattle.back_passes.proofs.taps.add_tap.Goals as goal

pub add-requires : goal.add-requires
add-requires c = record { fact_1 = found_below (below c.args.mode _ c.args.c c.args.d c.requires.fact_1.s_low) (sym c.extend.ensures ∙ c.in-Some.is); fact_2 = c.requires.fact_2 }

pub returns-in-Some : goal.returns-in-Some
returns-in-Some c =
    tap_in c.args.mode _ c.args.c c.args.d c.args.more _ _ _ (sym c.extend.ensures ∙ c.in-Some.is) c.add.ensures

pub returns-in_default : goal.returns-in_default
returns-in_default c =
    tap_out c.args.mode _ c.args.c c.args.d c.args.more _ (sym c.extend.ensures ∙ none_left c.extend.result c.in_default.not-Some)
