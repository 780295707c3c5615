-- The first k blocks are made anew, and the bytes from there on are as they were.
use mathlib.Core.Path.{◌≡◌}
use Prim.Native.Nat.{◌*◌}
use lib.ListN.{length}
use Rattle.picture.specs.Build.{build}
use Rattle.pam_format.proofs.Lines.{Begun}
use Rattle.pam_convert.specs.Straight.{rule, anew_at}
use Rattle.pam_convert.proofs.bodies.convert_blocks.Given as goal

abbrev pub invariant-loop-k : goal.invariant-loop-k
invariant-loop-k g l = Begun (build (128 * l.k) (anew_at (rule g.W.Words.out) l.from)) l.initial.to (128 * l.k) l.to × (length l.to ≡ length l.initial.to) × (length l.words ≡ 32) × (length l.factors ≡ 128)
