-- The row's element i is the share of input i.
use mathlib.Core.Path.{◌∙◌, sym, ap}
use mathlib.Core.List.{List}
use Prim.Native.Nat.{ℕ}
use lib.ListN.{get_or}
use lib.Seq.{get_or-take}
use Rattle.picture.proofs.Build.{get_or-build}
use Rattle.shares.proofs.single.share_in.Goals as goal

pub returns : goal.returns
returns c =
    let a = c.args in
    let i = c.requires.fact_4 in
    sym (get_or-take a.side.s c.fill_axis.new.row a.i 0 i)
    ∙ ap (λ (l : List ℕ). get_or l a.i 0) c.fill_axis.ensures.row_after
    ∙ get_or-build a.side.s _ a.i i
