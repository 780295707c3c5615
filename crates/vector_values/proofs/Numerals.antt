-- A text read from the front, byte by byte: what the rest of it says, one byte on.
use mathlib.Core.Path.{◌≡◌, ◌∙◌, refl, ap}
use mathlib.Core.Bool.{Bool, true, false, cond, ◌&&◌}
use mathlib.Core.List.{List, [], ◌∷◌}
use Prim.Native.Nat.{ℕ, suc, ◌+◌, ◌*◌, ◌^◌, ◌≤◌, ◌<◌}
use native.Mathlib.Numerals.{add-one}
use native.Mathlib.Omega.{arith}
use borrow.Author.Tests.{lt-ltb, le-ltb, ltb-true, ltb-false, ne_eqb, eq-eqb}
use lib.Dec.{ltb}
use lib.ListN.{length, get_or, drop, drop_of_length-le}
use lib.Seq.{drop-cons}
use Rattle.std.specs.Bool.{then_some}
use Rattle.std.proofs.Common.{None, take, ◌-◌}
use Rattle.std.proofs.lemmas.Grind.{common_steps}
use Rattle.vector_values.specs.declared.text.Reading.{Reading}
use Rattle.vector_values.specs.Numerals.{digit_of, value_on, digits, numeral_at, line_length}

module _ (text : List ℕ) (i : ℕ) where
  pub past_value : (value : ℕ) → length text ≤ i → value_on value (drop i text) ≡ value
  unfolding value_on
  past_value value h = rw (drop_of_length-le text {i = i} h)

  pub past_digits : length text ≤ i → digits (drop i text) ≡ 0
  unfolding digits
  past_digits h = rw (drop_of_length-le text {i = i} h)

  pub past_line : length text ≤ i → line_length (drop i text) ≡ 0
  unfolding line_length
  past_line h = rw (drop_of_length-le text {i = i} h)

  module _ (inside : i < length text) where
    pub value_more : (value : ℕ) → digit_of (get_or text i 0) < 10 → value_on value (drop i text) ≡ value_on (value * 10 + digit_of (get_or text i 0)) (drop (i + 1) text)
    unfolding value_on
    value_more value h = rw (add-one, drop-cons text i 0 inside, lt-ltb _ _ h)

    pub value_stops : (value : ℕ) → 10 ≤ digit_of (get_or text i 0) → value_on value (drop i text) ≡ value
    unfolding value_on
    value_stops value h = rw (drop-cons text i 0 inside, le-ltb _ _ h)

    pub digits_more : digit_of (get_or text i 0) < 10 → digits (drop i text) ≡ suc (digits (drop (i + 1) text))
    unfolding digits
    digits_more h = rw (add-one, drop-cons text i 0 inside, lt-ltb _ _ h)

    pub digits_stop : 10 ≤ digit_of (get_or text i 0) → digits (drop i text) ≡ 0
    unfolding digits
    digits_stop h = rw (drop-cons text i 0 inside, le-ltb _ _ h)

    pub line_more : (get_or text i 0 ≡ 10 → ⊥) → line_length (drop i text) ≡ suc (line_length (drop (i + 1) text))
    unfolding line_length
    line_more h = rw (add-one, drop-cons text i 0 inside, ne_eqb _ _ h)

    pub line_stops : get_or text i 0 ≡ 10 → line_length (drop i text) ≡ 0
    unfolding line_length
    line_stops h = rw (drop-cons text i 0 inside, eq-eqb _ _ h)

-- further digits make no number less
pub value_grows : (text : List ℕ) (value : ℕ) → value ≤ value_on value text
unfolding value_on
value_grows [] value = omega arith
value_grows (c ∷ text) value = go (ltb (digit_of c) 10) (value_grows text (value * 10 + digit_of c))
  where
    go : (b : Bool) → value * 10 + digit_of c ≤ value_on (value * 10 + digit_of c) text
        → value ≤ cond b (value_on (value * 10 + digit_of c) text) value
    go true h = omega arith
    go false h = omega arith

-- a byte of the text from a place on
pub byte_from : (text : List ℕ) (at k : ℕ) → k < length (take (length text - at) (drop at text)) → get_or (take (length text - at) (drop at text)) k 0 ≡ get_or text (at + k) 0
byte_from text at k h = grind (arith, common_steps)

-- how far a text has been read: what was read and what is left make the whole number
pub record Read (text : List ℕ) (at i value : ℕ) : Type 0 where
  pub low : at ≤ i
  pub high : i ≤ length text
  pub value_is : value_on 0 (drop at text) ≡ value_on value (drop i text)
  pub digits_are : at + digits (drop at text) ≡ i + digits (drop i text)
  pub held : value < 2 ^ 64

module _ {text : List ℕ} {at i value : ℕ} (r : Read text at i value) where
  -- no digit is left
  pub stopped : value_on value (drop i text) ≡ value → digits (drop i text) ≡ 0 → then_some (ltb at i) (record { value = value; end = i }) ≡ numeral_at text at
  unfolding numeral_at
  stopped v d =
      let e : at + digits (drop at text) ≡ i = omega arith in
      rw (r.value_is ∙ v, lt-ltb value (2 ^ 64) r.held, e) (ap (λ (b : Bool). then_some b (let n : Reading = record { value = value; end = i } in n)) (some (digits (drop at text)) e _ refl))
    where
      some : (n : ℕ) → at + n ≡ i → (b : Bool) → ltb 0 n ≡ b → ltb at i ≡ (b && true)
      some n e true h = lt-ltb at i (omega (arith, ltb-true 0 n h))
      some n e false h = le-ltb at i (omega (arith, ltb-false 0 n h))

  -- the number outgrows 64 bits
  pub too_large : 2 ^ 64 ≤ value_on value (drop i text) → None ≡ numeral_at text at
  unfolding numeral_at
  too_large h = rw (r.value_is, le-ltb (value_on value (drop i text)) (2 ^ 64) h) (never (ltb 0 (digits (drop at text))) _)
    where
      never : (b : Bool) (x : Reading) → None ≡ then_some (b && false) x
      never true x = refl
      never false x = refl
