use mathlib.Core.Path.{◌∙◌, ap}
use native.Mathlib.Omega.{arith}
use Rattle.picture.specs.declared.Pixel.{Pixel}
use Rattle.picture.proofs.Filled.{fills_none, fills_more, fills_build}
use Rattle.pixels.specs.Pixels.{packed}
use Rattle.counting.proofs.words.pack_pixels.Goals as goal

pub pixel_at-requires : goal.pixel_at-requires
pixel_at-requires c = omega arith

pub loop-k-preserved : goal.loop-k-preserved
loop-k-preserved c =
    fills_more c.loop-k.invariant (omega arith) (c.pack.ensures ∙ ap (λ (p : Pixel). packed p) c.pixel_at.ensures)

pub returns : goal.returns
returns c = fills_build c.loop-k.invariant (omega arith)

pub loop-k-init : goal.loop-k-init
loop-k-init c = fills_none
