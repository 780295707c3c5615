-- Each way out with `false` breaks a rule, and past them the entries and the bodies decide.
use mathlib.Core.Path.{◌≡◌, ◌∙◌, sym, ap}
use mathlib.Core.Bool.{true≢false}
use native.Mathlib.Omega.{arith}
use Rattle.plate_numbers.specs.Numbers.{version, count, known, largest_whole}
use Rattle.plate_format.specs.Format.{max_count, entry_at}
use Rattle.plate_format.proofs.Tests.{refuted}
use Rattle.plate_format.proofs.Rules.{rules, table_inside, decides}
use Rattle.plate_format.proofs.is_plate.Goals as goal
use Rattle.plate_format.proofs.is_plate.Lts as lts
use Rattle.plate_format.proofs.is_plate.Reads as reads
use Rattle.plate_format.proofs.is_plate.Tie as tie

abbrev the_After-largest_whole : Type 0
the_After-largest_whole = lts.After-largest_whole tie.the-claims reads.Pre reads.Post

abbrev the_After-entry_at : Type 0
the_After-entry_at = lts.After-entry_at tie.the-claims reads.Pre reads.Post

pub returns-then-file-lt-HEADER : goal.returns-then-file-lt-HEADER
returns-then-file-lt-HEADER c = refuted _ (λ h. let z : ⊥ = omega (arith, table_inside _ (rules _ h)) in z)

pub returns-then-not-known : goal.returns-then-not-known
returns-then-not-known c =
    refuted _
    (λ h.
    true≢false (sym (rules _ h).version_is ∙ ap known (sym c.version-v.ensures) ∙ sym c.known.ensures ∙ c.if-not-known.true))

pub returns-then-n-gt-MAX_COUNT : goal.returns-then-n-gt-MAX_COUNT
unfolding max_count
returns-then-n-gt-MAX_COUNT c = refuted _ (λ h. let z : ⊥ = omega (arith, (rules _ h).few, c.count-n.ensures) in z)

-- the most bytes that this plate may have
limit : (c : the_After-largest_whole) →
    c.largest_whole.result ≡ largest_whole (version c.args.file.now)
limit c = c.largest_whole.ensures ∙ ap largest_whole c.version-v.ensures

pub returns-then-largest_whole-file : goal.returns-then-largest_whole-file
returns-then-largest_whole-file c = refuted _ (λ h. let z : ⊥ = omega (arith, (rules _ h).whole, limit c.before.before) in z)

-- the table's end
end : (c : the_After-entry_at) →
    let file = c.args.file.now in c.entry_at.result ≡ entry_at file (count file)
end c = c.entry_at.ensures ∙ ap (entry_at _) c.count-n.ensures

pub returns-then-file-entry_at : goal.returns-then-file-entry_at
returns-then-file-entry_at c = refuted _ (λ h. let z : ⊥ = omega (arith, table_inside _ (rules _ h), end c.before.before) in z)

pub filled-requires : goal.filled-requires
filled-requires c =
    let n = c.count-n.ensures in
    record { few = omega arith; inside = omega (arith, end c.before.before) }

pub returns : goal.returns
unfolding max_count
returns c =
    let l = c.before.before.before.before.before in
    c.filled.ensures
    ∙ decides _ (ap known (sym c.version-v.ensures) ∙ sym c.known.ensures ∙ c.if-not-known.false) (omega (arith, c.count-n.ensures)) (omega (arith, limit l))
