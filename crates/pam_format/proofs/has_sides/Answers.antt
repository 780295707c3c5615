-- Each way out is one part of the definition's "and".
use mathlib.Core.Path.{◌≡◌, sym, ◌∙◌}
use mathlib.Core.Bool.{false}
use borrow.Author.Tests.{eq-eqb, ne_eqb}
use Rattle.picture.specs.Refusal.{wrong_sides}
use Rattle.pam_format.specs.Format.{has_sides}
use Rattle.pam_format.proofs.has_sides.Goals as goal
use Rattle.pam_format.proofs.has_sides.Lts as lts
use Rattle.pam_format.proofs.has_sides.Reads as reads
use Rattle.pam_format.proofs.has_sides.Tie as tie

abbrev the_Else-wrong_sides : Type 0
the_Else-wrong_sides = lts.Else1 tie.the-claims reads.Pre reads.Post

pub returns-then-wrong_sides : goal.returns-then-wrong_sides
unfolding has_sides
returns-then-wrong_sides c = rw (sym c.wrong_sides.ensures ∙ c.if-wrong_sides.true)

sides : (c : the_Else-wrong_sides) → let a = c.args in wrong_sides a.w a.h ≡ false
sides c = sym c.wrong_sides.ensures ∙ c.if-wrong_sides.false

pub file_length-requires : goal.file_length-requires
file_length-requires c = sides c.before

pub returns-then-file-file_length : goal.returns-then-file-file_length
unfolding has_sides
returns-then-file-file_length c =
    let l = c.before.before in
    let other = c.if-file-file_length.true in
    rw (sides l.before, ne_eqb _ _ (λ e. other (e ∙ sym c.file_length.ensures)))

pub returns : goal.returns
unfolding has_sides
returns c =
    let e = c.before.before in
    let l = e.before in
    rw (sides l.before, eq-eqb _ _ (c.if-file-file_length.false ∙ c.file_length.ensures)) c.has_header.ensures
