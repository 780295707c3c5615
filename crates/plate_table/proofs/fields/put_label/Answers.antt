-- Two numbers where the version has a label, and no byte where it has none.
use mathlib.Core.Path.{◌≡◌, ◌∙◌, sym}
use mathlib.Core.Bool.{true}
use Prim.Native.Nat.{ℕ, ◌+◌, ◌≤◌}
use native.Mathlib.Omega.{arith}
use borrow.Author.Rules.{rules}
use lib.ListN.{length}
use Rattle.plate_numbers.specs.Numbers.{labelled}
use Rattle.plate_written.specs.Written.{bytes16, label_bytes}
use Rattle.plate_written.proofs.Written.{label_there, label_none}
use Rattle.plate_table.proofs.Laid.{laid_none, laid_then}
use Rattle.plate_table.proofs.fields.put_label.Goals as goal

room : (v unit sheet at n : ℕ) → labelled v ≡ true → at + length (label_bytes v unit sheet) ≤ n → at + 4 ≤ n
unfolding bytes16
room v unit sheet at n there fits = rw (label_there v unit sheet there) at fits

pub put_u16-requires : goal.put_u16-requires
put_u16-requires c = let r = room _ _ _ _ _ (sym c.labelled.ensures ∙ c.if-labelled.true) c.requires in search rules

pub put_u16-requires-then-labelled : goal.put_u16-requires-then-labelled
put_u16-requires-then-labelled c = let r = room _ _ _ _ _ (sym c.labelled.ensures ∙ c.if-labelled.true) c.requires in search rules

pub returns-then-labelled : goal.returns-then-labelled
unfolding bytes16
returns-then-labelled c =
    let there = sym c.labelled.ensures ∙ c.if-labelled.true in
    let r = room _ _ _ _ _ there c.requires in
    rw (label_there _ _ _ there) (laid_then _ _ _ _ _ c.put_u16.ensures c.put_u16-then-labelled.ensures (omega arith) (omega arith))

pub returns-else-labelled : goal.returns-else-labelled
returns-else-labelled c = rw (label_none _ _ _ (sym c.labelled.ensures ∙ c.if-labelled.false)) (laid_none _ _)
