use mathlib.Core.Path.{◌≡◌, ◌∙◌}
use Prim.Native.Nat.{◌+◌, ◌*◌}
use native.Mathlib.Omega.{arith}
use lib.ListN.{drop, get_or}
use Rattle.vector_values.specs.Numerals.{digit_of}
use Rattle.vector_values.proofs.Numerals.{byte_from, past_value, past_digits, value_more, value_stops, digits_more, digits_stop, value_grows, stopped, too_large}
use Rattle.vector_values.proofs.text.numeral.Goals as goal
use Rattle.vector_values.proofs.text.numeral.Goals.{else-loop-c-test, then-loop-c-test+in_default}

pub returns-in_err-checked_mul : goal.returns-in_err-checked_mul
returns-in_err-checked_mul c =
    let text = c.args.text.now in
    let i = c.loop-c.end in
    let product = c.in_err-checked_mul.ensures in
    let digit = rw (byte_from text c.args.at c.loop-c.c-index (omega arith), ← c.loop-c.invariant.1) at c.in-Some.ensures in
    let more = value_more text i (omega arith) c.loop-c.value (omega arith) in
    let grows = value_grows (drop (i + 1) text) (c.loop-c.value * 10 + digit_of (get_or text i 0)) in
    c.from_residual.ensures ∙ too_large c.loop-c.invariant.0 (omega arith)

pub returns-in_err-value : goal.returns-in_err-value
returns-in_err-value c =
    let text = c.args.text.now in
    let i = c.loop-c.end in
    let sum = c.in_err-value.ensures in
    let product = c.in_ok-checked_mul.ensures in
    let digit = rw (byte_from text c.args.at c.loop-c.c-index (omega arith), ← c.loop-c.invariant.1) at c.in-Some.ensures in
    let more = value_more text i (omega arith) c.loop-c.value (omega arith) in
    let grows = value_grows (drop (i + 1) text) (c.loop-c.value * 10 + digit_of (get_or text i 0)) in
    c.from_residual-in_err-value.ensures ∙ too_large c.loop-c.invariant.0 (omega arith)

pub loop-c-preserved : goal.loop-c-preserved
loop-c-preserved c =
    let text = c.args.text.now in
    let i = c.loop-c.end in
    let sum = c.in_ok-value.ensures in
    let product = c.in_ok-checked_mul.ensures in
    let digit = rw (byte_from text c.args.at c.loop-c.c-index (omega arith), ← c.loop-c.invariant.1) at c.in-Some.ensures in
    let more = digits_more text i (omega arith) (omega arith) in
    let value : c.in_ok-value.value ≡ c.loop-c.value * 10 + digit_of (get_or text i 0) = omega arith in (
      record {
        low = omega arith;
        high = omega arith;
        value_is = c.loop-c.invariant.0.value_is ∙ rw value (value_more text i (omega arith) c.loop-c.value (omega arith));
        digits_are = omega arith;
        held = omega arith;
      },
      omega arith,
    )

pub returns : goal.returns
returns c =
    let text = c.args.text.now in
    let i = c.loop-c.end in
    elim c.loop-c-test.branch [
      | else-loop-c-test w ↦
          c.then_some.ensures ∙ stopped c.loop-c.invariant.0 (past_value text i c.loop-c.value (omega arith)) (past_digits text i (omega arith))
      | then-loop-c-test+in_default w ↦
          let digit = rw (byte_from text c.args.at c.loop-c.c-index (omega arith), ← c.loop-c.invariant.1) at w.in_default.ensures in
          c.then_some.ensures ∙ stopped c.loop-c.invariant.0 (value_stops text i (omega arith) c.loop-c.value (omega arith)) (digits_stop text i (omega arith) (omega arith))
    ]
