-- What the row gained is all it holds, as it was blank.
use mathlib.Core.Path.{◌∙◌, ap, sym, subst}
use mathlib.Core.List.{List}
use Prim.Native.Nat.{ℕ, ◌+◌}
use native.Mathlib.Nat.{zero-add}
use lib.ListN.{length}
use Rattle.back_passes.specs.Worth.{worth_of, Blank}
use Rattle.back_passes.specs.Steps.{exact_pass}
use Rattle.back_passes.proofs.Worth.{worth_blank}
use Rattle.backwards.proofs.Lines.{blank_replicate}
use Rattle.backwards.proofs.line.move_back.Goals as goal

pub returns : goal.returns
returns c =
    let a = c.args in
    record {
      carried = λ l. c.carry_pass.ensures l
          ∙ ap (λ (k : ℕ). k + worth_of a.outputs.now (exact_pass a.kind a.mode a.numerators.now (length a.row.now) l)) (worth_blank a.row.now c.requires.fact_2 l)
          ∙ zero-add _;
      blank = subst (λ (row : List ℕ). Blank row) (sym (c.fill.ensures.after (λ y e. e))) (blank_replicate _);
    }
