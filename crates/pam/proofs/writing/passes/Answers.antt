-- Past checks 1 and 2, where none is counted every place passes.
use mathlib.Core.Path.{◌≡◌, sym, ap, subst, ◌∙◌}
use mathlib.Core.Bool.{Bool, true, false, true≢false}
use Prim.Native.Nat.{◌*◌, ◌/◌}
use native.Mathlib.Omega.{arith}
use borrow.Author.Tests.{eqb-true}
use Rattle.picture.specs.Planes.{bytes_of}
use Rattle.picture.specs.Sizes.{full_bytes, FullSized}
use Rattle.picture.proofs.Conditions.{right_length}
use Rattle.picture.proofs.Sizes.{full_sized}
use Rattle.pixels.specs.Channels.{exceeds_at}
use Rattle.grading.proofs.Scanned.{finds_none}
use Rattle.counting.specs.Counts.{how_many}
use Rattle.counting.proofs.Counted.{none_many}
use Rattle.pam.proofs.writing.passes.Goals as goal

-- a test that fails answers no
no : {A : Type 0} → ◌≡◌ {A = Bool} false true → A
no e = absurd (true≢false (sym e))

pub full_size-size-requires : goal.full_size-size-requires
full_size-size-requires c = sym c.wrong_sides.ensures ∙ c.if-wrong_sides.false

pub bytes-requires : goal.bytes-requires
bytes-requires c = subst FullSized (sym c.full_size-size.ensures) (full_sized _ _ (sym c.wrong_sides.ensures ∙ c.if-wrong_sides.false))

-- the picture has 4wh bytes, and so w·h pixels are counted
pub none_exceeds-requires : goal.none_exceeds-requires
none_exceeds-requires c =
    let size : c.bytes.result ≡ bytes_of c.args.w c.args.h = c.bytes.ensures ∙ ap full_bytes c.full_size-size.ensures in
    omega (arith, size, (right_length _ _ _).0 (sym c.wrong_length.ensures ∙ c.if-wrong_length.false))

pub returns : goal.returns
returns c e =
    let a = c.args in
    let picture = a.picture.now in
    let size : c.bytes.result ≡ bytes_of a.w a.h = c.bytes.ensures ∙ ap full_bytes c.full_size-size.ensures in
    let all : c.bytes.result / 4 ≡ a.w * a.h = omega (arith, size) in
    let none_fails : how_many (exceeds_at picture) (a.w * a.h) ≡ 0 = ap (how_many (exceeds_at picture)) (sym all) ∙ eqb-true _ 0 (sym c.none_exceeds.ensures ∙ e) in
    record {
      sides = sym c.wrong_sides.ensures ∙ c.if-wrong_sides.false;
      exact = sym c.wrong_length.ensures ∙ c.if-wrong_length.false;
      scan = finds_none picture a.w a.h (none_many (exceeds_at picture) (a.w * a.h) none_fails);
    }

pub returns-then-wrong_sides : goal.returns-then-wrong_sides
returns-then-wrong_sides c e = no e

pub returns-then-wrong_length : goal.returns-then-wrong_length
returns-then-wrong_length c e = no e
