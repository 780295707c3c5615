-- One call for each number.
use Rattle.std.proofs.Common.{rules, tests}
use Rattle.vector_values.specs.Values.{word_of}
use Rattle.vector_buffers.proofs.Filled.{made_each}
use Rattle.vector_words.proofs.words.words_from.Goals as goal

pub returns-clause-value : goal.returns-clause-value
returns-clause-value c =
    let numbers = c.numbers_from-numbers in
    let made = made_each 0 word_of numbers.result numbers.ensures.value_2 (λ i y q k. search (rules, tests)) c.from_fn.ensures.items in
    rw numbers.ensures.value at made
