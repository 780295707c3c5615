-- Refused, and all is 0; or read, and the pointers hold the sides and the length.
use mathlib.Core.Path.{◌≡◌}
use mathlib.Core.List.{List}
use Prim.Native.Nat.{ℕ}
use native.Mathlib.Omega.{arith}
use Rattle.std.proofs.Common.{Result, Ok}
use Rattle.picture.specs.declared.checks.Refusal.{Refusal}
use Rattle.picture.specs.Sizes.{Sides}
use Rattle.picture.specs.declared.FullSize.{FullSize}
use Rattle.picture.proofs.Sizes.{full_sized, room_is}
use Rattle.pam.specs.Import.{import_outcome, import_answer}
use Rattle.pam.proofs.Taken.{was_read}
use Rattle.face_files.proofs.images.corbelrush_pam_read.Goals as goal

-- the sides of what was read have room
sized : {r : Result FullSize Refusal} {size : FullSize} (file picture left : List ℕ) → r ≡ Ok size → import_answer r left ≡ import_outcome file picture → Sides size.w size.h
sized {size = size} file picture left e told = full_sized _ _ (was_read file picture size left (rw e at told)).pam.sides

pub overflow_cast-w : goal.overflow_cast-w
overflow_cast-w c =
    let s = sized c.args.file.now c.args.picture.now c.pam_read.new.picture c.in-Ok.is c.pam_read.ensures in
    omega (arith, c.width.ensures, room_is, s.w_high)

pub overflow_cast-h : goal.overflow_cast-h
overflow_cast-h c =
    let s = sized c.args.file.now c.args.picture.now c.pam_read.new.picture c.in-Ok.is c.pam_read.ensures in
    omega (arith, c.height.ensures, room_is, s.h_high)

pub bytes-requires : goal.bytes-requires
bytes-requires c = sized c.args.file.now c.args.picture.now c.pam_read.new.picture c.in-Ok.is c.pam_read.ensures

pub returns-in-Err : goal.returns-in-Err
returns-in-Err c = rw c.number.ensures (rw c.in-Err.is at c.pam_read.ensures)

pub returns-in-Ok : goal.returns-in-Ok
returns-in-Ok c = rw (c.width.ensures, c.height.ensures, c.bytes.ensures) (rw c.in-Ok.is at c.pam_read.ensures)
