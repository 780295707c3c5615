use mathlib.Core.Path.{◌≡◌, refl, sym, ap, subst, ◌∙◌}
use Prim.Native.Nat.{ℕ, ◌+◌, ◌-◌, ◌*◌, ◌/◌, ◌≤◌, ◌<◌}
use native.Mathlib.Omega.{arith}
use lib.ListN.{length, take, drop, length-append, length-take, length-drop}
use Rattle.pam_format.proofs.Lines.{part_is}
use Rattle.opaque.specs.Front.{Opaque}
use Rattle.opaque.proofs.Fronts.{front_none, front_more}
use Rattle.opaque.proofs.copy_blocks.Goals as goal

pub loop-block-init : goal.loop-block-init
loop-block-init c = (front_none _ _, refl, omega arith)

-- a block lies inside
room : (block to from : ℕ) → block < to / 128 → from ≡ to → (128 * block + 128 ≤ to) × (128 * block + 128 ≤ from)
room block to from h e = (omega arith, omega arith)

pub mixed-requires : goal.mixed-requires
mixed-requires c =
    let i = c.loop-block.invariant in
    simp (length-take, length-drop) (omega (arith, room c.loop-block.block (length c.args.to.now) _ (omega arith) c.requires.fact_1, i.2))

pub copy_bytes-requires : goal.copy_bytes-requires
copy_bytes-requires c =
    let i = c.loop-block.invariant in
    simp (length-take, length-drop) (omega (arith, room c.loop-block.block (length c.args.to.now) _ (omega arith) c.requires.fact_1, i.1))

pub loop-block-preserved : goal.loop-block-preserved
loop-block-preserved c =
    let i = c.loop-block.invariant in
    let from = c.args.from.now in
    let at = 128 * c.loop-block.block in
    let in_room = room c.loop-block.block (length c.args.to.now) _ (omega arith) c.requires.fact_1 in
    let text = take 128 (drop at from) in
    let long : at + 128 - at ≡ 128 = omega arith in
    let size : length text ≡ 128 = simp (length-take, length-drop) (omega (arith, in_room)) in
    let made : c.copy_bytes.new.to ≡ text = c.copy_bytes.ensures ∙ ap (λ (k : ℕ). take k (drop at from)) long in
    let next : 128 * (c.loop-block.block + 1) ≡ at + 128 = omega arith in
    let put = part_is at 128 text c.loop-block.to c.copy_bytes.new.to made (sym size) in
    let block : Opaque text (length text) = subst (λ (k : ℕ). Opaque (take k (drop at from)) (length (take k (drop at from)))) long (c.mixed.ensures c.if-mixed.false) in (
      rw next (front_more i.0 128 in_room.1 refl (λ j m. block j (omega (arith, size))) put),
      ap length put ∙ simp (length-append, length-take, length-drop) (omega (arith, in_room, i.1)),
      omega (arith, c.mixed.auto.words, i.2),
    )

pub returns-then-mixed : goal.returns-then-mixed
returns-then-mixed c = c.loop-block.invariant.0

pub returns : goal.returns
returns c =
    let e : c.loop-block.block ≡ length c.args.to.now / 128 = omega arith in
    rw (← e) c.loop-block.invariant.0
