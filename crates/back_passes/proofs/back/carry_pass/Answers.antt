use mathlib.Core.Path.{subst}
use Prim.Native.Nat.{ℕ, ◌*◌}
use native.Mathlib.Omega.{arith}
use lib.ListN.{length, get_or}
use Rattle.back_passes.specs.Worth.{Gained}
use Rattle.back_passes.specs.Steps.{exact_pass}
use Rattle.back_passes.proofs.Carried.{carried_none, carried_more, carried_blank, carried_room, carried_all}
use Rattle.back_passes.proofs.back.carry_pass.Goals as goal
use Rattle.back_passes.proofs.back.carry_pass.Goals.{then-v-ne0, else-v-ne0}

pub loop-x-init : goal.loop-x-init
loop-x-init c =
    let a = c.args in
    carried_none a.kind a.mode a.numerators.now (length a.row.now) a.outputs.now a.row.now

pub carry_output-requires : goal.carry_output-requires
carry_output-requires c =
    let l = c.loop-x in
    let a = c.args in
    let room = carried_room a.kind a.mode a.numerators.now (length a.row.now) a.outputs.now c.requires.kernel a.row.now l.row l.x (omega arith) l.invariant in
    record {
      sized = record { low = omega (arith, l.auto.row, c.requires.sized.low); high = omega (arith, l.auto.row, c.requires.sized.high) };
      kernel = c.requires.kernel;
      far = omega (arith, c.requires.far);
      room = omega (arith, room, c.requires.room);
    }

pub loop-x-preserved : goal.loop-x-preserved
loop-x-preserved c =
    let l = c.loop-x in
    let a = c.args in
    let s = length a.row.now in
    let ms = a.numerators.now in
    elim c.if-v-ne0.branch [
      | then-v-ne0 w ↦
          let row = w.carry_output.new.row in
          rw w.row-is
          (carried_more a.kind a.mode ms s a.outputs.now a.row.now l.row row l.x l.invariant
          (subst (λ (n : ℕ). Gained l.row row (λ t. get_or a.outputs.now l.x 0 * exact_pass a.kind a.mode ms n t l.x)) l.auto.row w.carry_output.ensures))
      | else-v-ne0 w ↦ rw w.row-is (carried_blank a.kind a.mode ms s a.outputs.now a.row.now l.row l.x l.invariant w.if-v-ne0.false)
    ]

pub returns : goal.returns
returns c =
    let l = c.loop-x in
    let a = c.args in
    carried_all a.kind a.mode a.numerators.now (length a.row.now) a.outputs.now a.row.now l.row l.x (omega arith) l.invariant
