-- Too little room, or the header and then the body.
use mathlib.Core.Path.{◌≡◌, refl, sym, ap, subst, ◌∙◌}
use Prim.Native.Nat.{ℕ, ◌+◌, ◌-◌, ◌≤◌, ◌<◌}
use native.Mathlib.Omega.{arith}
use borrow.Author.Tests.{lt-ltb, le-ltb}
use borrow.Rule.Slice.PartMut.{put_mid}
use lib.ListN.{length, length-take, length-drop}
use Rattle.std.proofs.Common.{Ok}
use Rattle.picture.specs.Sizes.{full_bytes}
use Rattle.picture.specs.declared.FullSize.{FullSize}
use Rattle.picture.proofs.Sizes.{whole}
use Rattle.pam_format.specs.Header.{header, written_at}
use Rattle.pam_format.proofs.Lines.{Begun, more, part_is}
use Rattle.unmultiply.specs.Outward.{outward}
use Rattle.pam_convert.specs.Straight.{exported}
use Rattle.pam.specs.Export.{export_answer}
use Rattle.pam_convert.specs.Needs.{Passing}
use Rattle.pam.proofs.Exports.{no_room, written}
use Rattle.pam_convert.proofs.Recolouring.{length_recoloured}
use Rattle.pam.proofs.writing.write_file.Goals as goal

pub returns-then-file-end : goal.returns-then-file-end
returns-then-file-end c =
    let a = c.args in
    rw c.from.ensures (no_room a.picture.now a.w a.h a.file.now c.requires (lt-ltb _ _ (subst (λ (n : ℕ). length a.file.now < n) c.file_length-end.ensures c.if-file-end.true)))

pub write_body-requires : goal.write_body-requires
write_body-requires c = let a = c.args in record { fact_1 = subst (λ (z : FullSize). Passing z.w z.h a.picture.now) (sym c.full_size.ensures) (record { whole = whole _ _ _ c.requires.sides c.requires.exact; scan = c.requires.scan }); fact_2 = simp (length-take, length-drop) (omega (arith, c.file_length-end.ensures, c.write_header-start.ensures.0, ap full_bytes c.full_size.ensures)) }

pub returns : goal.returns
returns c =
    let a = c.args in
    let body = exported a.w a.h a.picture.now in
    let from = c.write_header-start.result in
    let line = c.write_header-start.new.line in
    let part = c.write_body.new.body in
    let new = put_mid from (c.file_length-end.result - from) line part in
    let end : c.file_length-end.result ≡ from + length body =
    omega (arith, c.file_length-end.ensures, c.write_header-start.ensures.0, length_recoloured outward a.w a.h a.picture.now) in
    let made : part ≡ body = c.write_body.ensures ∙ ap (λ (z : FullSize). exported z.w z.h a.picture.now) c.full_size.ensures in
    let put : new ≡ written_at from body line = ap (λ (n : ℕ). put_mid from (n - from) line part) end ∙ part_is from (length body) body line part made refl in
    let begun : Begun (header a.w a.h) a.file.now from line = record { so = c.write_header-start.ensures.1; place = c.write_header-start.ensures.0 } in
    ap (λ (n : ℕ). export_answer (Ok n) new) c.file_length-end.ensures
    ∙ written a.picture.now a.w a.h a.file.now c.requires (le-ltb _ _ (subst (λ (n : ℕ). n ≤ length a.file.now) c.file_length-end.ensures c.if-file-end.false)) new
    (more body begun refl put).so
