-- Turned, made others as one line and turned back are the pass over the lines.
use mathlib.Core.Path.{◌≡◌, ◌∙◌}
use mathlib.Core.List.{List, ◌++◌}
use Prim.Native.Nat.{ℕ, ◌≤◌}
use lib.ListN.{length, take, drop}
use Rattle.resize.specs.Resize.{pass_of}
use Rattle.turns.proofs.Lines.{turned_pass}
use Rattle.decimate.proofs.Fronts.{front_is, front_fits}
use Rattle.decimate.proofs.Levels.{local, some_made, as_lines}
use Rattle.decimate.proofs.resize_turned.Goals as goal
use Rattle.decimate.proofs.resize_turned.Goals.{Start, After-turn, After-resize_lines}

-- the lines turned are the first bytes of scratch
module _ (t : After-turn) where
  abbrev lent : List ℕ
  lent = t.args.scratch.now

  abbrev turned : List ℕ
  turned = t.turn.new.dst

  abbrev scratch : List ℕ
  scratch = turned ++ drop t.args.before lent

  turned_is : take t.args.before scratch ≡ turned
  turned_is = front_is t.args.before lent turned t.requires.scratch_before t.turn.auto.dst

  room : t.args.between ≤ length scratch
  room = front_fits t.args.before lent turned t.requires.scratch_before t.turn.auto.dst t.requires.scratch_between

-- what the one line becomes are the first bytes of the picture
module _ (l : After-resize_lines) where
  abbrev old : List ℕ
  old = l.args.picture.now

  abbrev made : List ℕ
  made = l.resize_lines.new.dst

  made_is : take l.args.between (made ++ drop l.args.between old) ≡ made
  made_is = front_is l.args.between old made l.requires.picture_between l.resize_lines.auto.dst

pub returns : goal.returns
returns c =
    let l = (goal.at.returns c).After-resize_lines in
    let t = (goal.at.returns c).After-turn in
    let k = c.args.kind in
    let p = c.requires.lined in
    turned_pass (as_lines p) (some_made k p.makes p.len_low) (pass_of k c.args.mode) (local k c.args.mode)
    (turned_is t ∙ c.turn.ensures) (made_is l ∙ c.resize_lines.ensures) (front_is _ (scratch t) _ (room t) c.turn-2.auto.dst ∙ c.turn-2.ensures)
