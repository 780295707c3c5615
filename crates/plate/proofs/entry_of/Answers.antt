-- Each way out is the number of the check that led there; past them the entry is the plate's.
use mathlib.Core.Path.{◌≡◌, ◌∙◌, sym, ap}
use mathlib.Core.Bool.{true, false}
use Prim.Native.Nat.{ℕ, ◌<◌}
use native.Mathlib.Omega.{arith}
use lib.Dec.{leb}
use borrow.Author.Tests.{not-true, not-false, leb-false}
use Rattle.std.proofs.lemmas.Result.{err_from_is_err_and}
use Rattle.picture.specs.Refusal.{number}
use Rattle.plate_numbers.specs.Numbers.{count}
use Rattle.plate_numbers.proofs.Refused.{refusing, passing}
use Rattle.plate_format.specs.Format.{is_plate}
use Rattle.plate_format.proofs.Rules.{plate_tabled}
use Rattle.plate.proofs.Settle.{broken, missing}
use Rattle.plate.proofs.entry_of.Goals as goal
use Rattle.plate.proofs.entry_of.Goals.{In_ok-refuse_if}

pub returns-in_err-refuse_if : goal.returns-in_err-refuse_if
unfolding number
returns-in_err-refuse_if c =
    let p = err_from_is_err_and c.from_residual.result c.from_residual.ensures.1 in
    let t = refusing _ c.in_err-refuse_if.ensures in
    rw (p.1, p.2, t.1) (broken _ _ (sym c.is_plate.ensures ∙ not-true _ t.0))

plate : (c : In_ok-refuse_if) → is_plate c.args.plate.now ≡ true
plate c = sym c.is_plate.ensures ∙ not-false _ (passing _ _ c.in_ok-refuse_if.ensures)

pub count-requires : goal.count-requires
count-requires c = omega (arith, (plate_tabled _ (plate c)).inside)

pub returns-in_err-refuse_if-2 : goal.returns-in_err-refuse_if-2
unfolding number
returns-in_err-refuse_if-2 c =
    let p = err_from_is_err_and c.from_residual-in_err-refuse_if-2.result c.from_residual-in_err-refuse_if-2.ensures.1 in
    let t = refusing _ c.in_err-refuse_if-2.ensures in
    let past = plate (goal.at.returns-in_err-refuse_if-2 c).In_ok-refuse_if in
    rw (p.1, p.2, t.1) (missing _ _ past (ap (λ (n : ℕ). leb n c.args.index) (sym c.count.ensures) ∙ t.0))

pub read_entry-requires : goal.read_entry-requires
read_entry-requires c =
    let past = plate (goal.at.read_entry-requires c).In_ok-refuse_if in
    (plate_tabled _ past, omega (arith, c.count.ensures, leb-false _ _ (passing _ _ c.in_ok-refuse_if-2.ensures)))

pub returns : goal.returns
returns c =
    let past = plate (goal.at.returns c).In_ok-refuse_if in
    (past, omega (arith, c.count.ensures, leb-false _ _ (passing _ _ c.in_ok-refuse_if-2.ensures)), c.read_entry.ensures)
