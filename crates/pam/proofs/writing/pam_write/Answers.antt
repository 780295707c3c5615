-- Each answer of the check is the file's, or leads to the file of a picture that passed.
use Rattle.std.proofs.lemmas.Result.{err_from_is_err_and}
use Rattle.grading.specs.Premultiplied.{none}
use Rattle.pam.proofs.Exports.{past_both, refused_picture, refused_place}
use Rattle.pam.proofs.writing.pam_write.Goals as goal

pub returns-in_err-place : goal.returns-in_err-place
returns-in_err-place c =
    let a = c.args in
    let p = err_from_is_err_and c.from_residual.result c.from_residual.ensures.1 in
    rw (p.1, p.2) (refused_picture a.picture.now a.w a.h a.file.now c.in_err-place.field-0.0 c.in_err-place.ensures)

pub returns-in-Some : goal.returns-in-Some
returns-in-Some c =
    let a = c.args in
    refused_place a.picture.now a.w a.h a.file.now c.in-Some.place (rw c.in-Some.is at c.in_ok-place.ensures)

pub write_file-requires : goal.write_file-requires
write_file-requires c =
    let a = c.args in
    past_both a.picture.now a.w a.h none (rw c.in_default.is at c.in_ok-place.ensures)
