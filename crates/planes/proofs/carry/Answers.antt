use mathlib.Core.Path.{refl, ap, ◌∙◌}
use mathlib.Core.List.{List}
use Prim.Native.Nat.{ℕ, ◌+◌, ◌*◌, ◌≤◌, ◌<◌}
use native.Mathlib.Omega.{arith}
use lib.ListN.{length, get_or}
use Rattle.planes.specs.Places.{pixelwise}
use Rattle.planes.proofs.Carried.{pixel_at_lem, pixel_inside, pixel_more}
use Rattle.planes.proofs.carry.Goals as goal

pub loop-i-init : goal.loop-i-init
loop-i-init c = let pre = c.requires in (refl, pre.done)

pub overflow_mul-i : goal.overflow_mul-i
overflow_mul-i c =
    let pre = c.requires in
    omega (arith, pixel_inside _ _ _ _ c.loop-i.i pre.reads (omega arith), pre.short)

pub overflow_mul-i-in-loop-i : goal.overflow_mul-i-in-loop-i
overflow_mul-i-in-loop-i c =
    let pre = c.requires in
    omega (arith, pixel_inside _ _ _ _ c.loop-i.i pre.writes (omega arith), pre.short)

pub carry_pixel-requires : goal.carry_pixel-requires
carry_pixel-requires c = let pre = c.requires in
    let i = c.loop-i.i in
    let d = c.args.d in
    let writes : i * d.pixel + 3 * d.channel < length c.loop-i.dst = omega (arith, pixel_inside _ _ _ _ i pre.writes (omega arith), c.loop-i.invariant.0) in
    let long : length c.loop-i.dst ≤ 17179869184 = omega (arith, pre.short.1, c.loop-i.invariant.0) in record { fact_1 = pixel_inside _ _ _ _ i pre.reads (omega arith); fact_2 = writes; fact_3 = (pre.short.0, long) }

pub loop-i-preserved : goal.loop-i-preserved
loop-i-preserved c =
    let s = c.args.s in
    let d = c.args.d in
    let i = c.loop-i.i in
    let made = c.carry_pixel in
    let more =
    pixel_more (pixelwise s.channel s.pixel) (pixelwise d.channel d.pixel) c.args.src.now _ c.requires.own i (i * s.pixel) s.channel (i * d.pixel) d.channel
    (λ k j lc e. omega (arith, pixel_at_lem s.channel s.pixel j i k lc e)) (λ k j lc e. omega (arith, pixel_at_lem d.channel d.pixel j i k lc e)) c.loop-i.dst (omega arith)
    (omega (arith, pixel_inside _ _ _ _ i c.requires.writes (omega arith), c.loop-i.invariant.0)) c.loop-i.invariant.1 in
    (made.auto.dst ∙ c.loop-i.invariant.0, λ j lj. ap (λ (b : List ℕ). get_or b (pixelwise d.channel d.pixel j) 0) made.ensures ∙ more j lj)

pub returns : goal.returns
returns c j lj = c.loop-i.invariant.1 j (omega arith)
