-- What an answer of 0 says of a file that was read.
use mathlib.Core.Path.{◌≡◌, sym, ap, subst}
use mathlib.Core.List.{List}
use Prim.Native.Nat.{ℕ, ◌≤◌}
use native.Mathlib.Omega.{arith}
use lib.ListN.{length}
use borrow.Author.Tests.{not-false}
use Rattle.std.proofs.Common.{Ok}
use Rattle.picture.specs.Planes.{bytes_of, laid}
use Rattle.picture.specs.declared.FullSize.{FullSize}
use Rattle.picture.proofs.Answers.{accepted}
use Rattle.picture.proofs.Conditions.{long_enough}
use Rattle.picture.proofs.Passed.{passed}
use Rattle.picture.proofs.Settled.{read}
use Rattle.pam_format.specs.Format.{width_in, height_in, is_pam, Pam}
use Rattle.pam_format.proofs.Files.{pam_is}
use Rattle.pam_convert.specs.Straight.{imported}
use Rattle.pam.specs.Import.{PictureRead, pixels_in, import_outcome, import_answer}

-- a file that was read: it is a PAM file of these sides, there was room, and its body came inward to the front of the picture
pub record ReadIn (file picture : List ℕ) (w h : ℕ) (new : List ℕ) : Type 0 where
  pub pam : Pam file w h
  pub room : bytes_of w h ≤ length picture
  pub left : new ≡ laid (imported w h (pixels_in file w h)) picture

module _ (file picture : List ℕ) (size : FullSize) (new : List ℕ) (e : import_answer (Ok size) new ≡ import_outcome file picture) where
  pub was_read : ReadIn file picture size.w size.h new
  unfolding import_outcome
  was_read =
      let done = accepted _ _ _ _ e in
      let pam = passed _ _ (omega arith) (read _ _ _ 0 _ e).number in
      let room = passed _ _ (omega arith) pam.1 in
      let w = width_in file in
      let h = height_in file in
      subst (λ (x : ℕ). ReadIn file picture x size.h new) (sym (ap (λ (p : PictureRead). p.width) done))
      (subst (λ (y : ℕ). ReadIn file picture w y new) (sym (ap (λ (p : PictureRead). p.height) done))
      (record {
        pam = (pam_is file).0 (not-false (is_pam file) pam.0);
        room = (long_enough (length picture) w h).0 room.0;
        left = ap (λ (p : PictureRead). p.picture) done;
      }))
