use mathlib.Core.Path.{◌≡◌, refl}
use mathlib.Core.List.{append-nil}
use native.Mathlib.Omega.{arith}
use lib.ListN.{length, get_or, length-set}
use lib.Seq.{drop-length}
use Rattle.picture.specs.Build.{build}
use Rattle.picture.proofs.Build.{build_more}
use Rattle.pixels.specs.Channels.{premultiply}
use Rattle.pam_convert.proofs.blocks.multiply.Goals as goal

pub loop-i-init : goal.loop-i-init
unfolding build
loop-i-init c = (refl, refl)

pub loop-i-preserved : goal.loop-i-preserved
loop-i-preserved c = (
  rw (c.premultiply.ensures, c.loop-i.invariant.0) (build_more (λ j. premultiply (get_or c.args.body.now j 0) (get_or c.args.factors.now j 0)) c.args.picture.now c.loop-i.i (omega arith)),
  simp length-set c.loop-i.invariant.1,
)

pub returns : goal.returns
returns c =
    let all : c.loop-i.i ≡ length c.args.picture.now = omega arith in
    rw (c.loop-i.invariant.0, all, drop-length c.args.picture.now, append-nil, c.requires.fact_1)
