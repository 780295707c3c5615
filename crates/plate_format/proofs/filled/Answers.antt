use mathlib.Core.Path.{◌≡◌, refl, ◌∙◌, sym}
use mathlib.Core.Bool.{true≢false}
use native.Mathlib.Numerals.{add-one}
use native.Mathlib.Omega.{arith}
use borrow.Author.Rules.{rules}
use Rattle.plate_numbers.specs.Numbers.{count}
use Rattle.plate_format.specs.Format.{body_offset, entry_obeys, all_below, filled}
use Rattle.plate_format.proofs.Tests.{refuted}
use Rattle.plate_format.proofs.Rules.{filled_is}
use Rattle.plate_format.proofs.filled.Goals as goal
use Rattle.plate_format.proofs.filled.Lts as lts
use Rattle.plate_format.proofs.filled.Reads as reads
use Rattle.plate_format.proofs.filled.Tie as tie

abbrev the_After-obeys : Type 0
the_After-obeys = lts.After-obeys tie.the-claims reads.Pre reads.Post goal.the-invariant-loop-i goal.the-decreases-loop-i

pub loop-i-init : goal.loop-i-init
unfolding body_offset all_below
loop-i-init c =
    let e = c.table_end-start.ensures in
    (e, omega (arith, c.requires.inside), refl)

-- what was asked of the entry is the rule of entry i
asked : (c : the_After-obeys) →
    c.obeys.result ≡ entry_obeys c.args.file.now c.loop-i.i
asked c =
    c.obeys.ensures ∙ rw (c.version-v.ensures, c.loop-i.invariant.0, c.read_entry-e.ensures)

pub returns-then-not-obeys : goal.returns-then-not-obeys
returns-then-not-obeys c =
    let b = c.before.before in
    refuted _
    (λ h. true≢false (sym ((filled_is _ h).obeyed c.loop-i.i (omega arith)) ∙ sym (asked b) ∙ c.if-not-obeys.true))

pub loop-i-preserved : goal.loop-i-preserved
unfolding body_offset all_below
loop-i-preserved c =
    let b = c.before.before.before in
    let obeyed = sym (asked b) ∙ c.if-not-obeys.false in
    (rw (add-one, c.loop-i.invariant.0, c.read_entry-e.ensures), search rules, rw (add-one, c.loop-i.invariant.2) obeyed)

pub returns : goal.returns
unfolding filled
returns c =
    let e : c.loop-i.i ≡ count c.args.file.now = omega (arith, c.count-n.ensures) in
    rw (← e, c.loop-i.invariant.2, c.loop-i.invariant.0)
