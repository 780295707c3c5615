use mathlib.Core.Path.{◌≡◌, refl, sym, ap, ◌∙◌}
use mathlib.Core.Bool.{true}
use Prim.Native.Nat.{ℕ, ◌+◌, ◌*◌}
use native.Mathlib.Omega.{arith}
use lib.ListN.{get_or, drop}
use Rattle.pam_format.specs.Format.{is_digit, number_on, side_at}
use Rattle.pam_format.proofs.Numbers.{ended, stops, full, goes}
use Rattle.pam_format.proofs.number_at.Goals as goal

pub loop-i-init : goal.loop-i-init
unfolding side_at
loop-i-init c = (omega arith, refl)

pub returns-then-not-is_ascii_digit : goal.returns-then-not-is_ascii_digit
returns-then-not-is_ascii_digit c =
    let e = sym c.is_ascii_digit.ensures.value ∙ c.if-not-is_ascii_digit.true in
    sym (c.loop-i.invariant.1 ∙ stops c.args.file.now c.loop-i.i c.loop-i.value (omega arith) e)

pub returns-then-value-gt9999 : goal.returns-then-value-gt9999
returns-then-value-gt9999 c =
    let e = sym c.is_ascii_digit.ensures.value ∙ c.if-not-is_ascii_digit.false in
    sym (c.loop-i.invariant.1 ∙ full c.args.file.now c.loop-i.i c.loop-i.value (omega arith) e c.if-value-gt9999.true)

pub loop-i-preserved : goal.loop-i-preserved
loop-i-preserved c =
    let file = c.args.file.now in
    let i = c.loop-i.i in
    let v = c.loop-i.value in
    let e : is_digit (get_or file i 0) ≡ true = sym c.is_ascii_digit.ensures.value ∙ c.if-not-is_ascii_digit.false in
    let d = c.if-not-is_ascii_digit.ensures.cases in (
      omega (arith, d.1, c.from.ensures),
      c.loop-i.invariant.1 ∙ goes file i v (omega arith) e (omega arith) ∙ ap (λ (x : ℕ). number_on (drop (i + 1) file) (10 * v + x)) (sym c.from.ensures),
    )

pub returns : goal.returns
returns c =
    sym (c.loop-i.invariant.1 ∙ ended c.args.file.now c.loop-i.i c.loop-i.value (omega arith))
