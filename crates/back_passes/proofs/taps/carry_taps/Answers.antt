use mathlib.Core.Path.{◌≡◌, subst}
use Prim.Native.Nat.{ℕ, ◌+◌, ◌*◌, ◌≤◌}
use native.Mathlib.Omega.{arith}
use lib.ListN.{length, get_or}
use Rattle.edges.specs.Edges.{sample}
use Rattle.binary32.specs.Grid.{sum}
use Rattle.back_passes.specs.Worth.{total, Gained}
use Rattle.back_passes.specs.Steps.{tap_sum}
use Rattle.back_passes.proofs.Taken.{taps_none, taps_more, taps_room}
use Rattle.back_passes.proofs.taps.carry_taps.Goals as goal
use Rattle.back_passes.proofs.taps.carry_taps.Goals.{In-loop-j}

pub loop-j-init : goal.loop-j-init
loop-j-init c =
    let a = c.args in
    taps_none a.mode (length a.row.now) a.taps.now a.c a.d a.v a.row.now

-- what a turn adds leaves room
room : (c : In-loop-j) →
    let a = c.args in
    total c.loop-j.row + a.v * get_or a.taps.now c.loop-j.j 0 ≤ total a.row.now + a.v * sum a.taps.now
room c =
    let l = c.loop-j in
    let a = c.args in
    taps_room a.mode (length a.row.now) a.taps.now a.c a.d a.v a.row.now l.row l.j (omega arith) l.invariant

pub overflow_mul-v : goal.overflow_mul-v
overflow_mul-v c =
    omega (arith, room (goal.at.overflow_mul-v c).In-loop-j, c.requires.room)

pub add_tap-requires : goal.add_tap-requires
add_tap-requires c = let l = c.loop-j in record {
  fact_1 = record {
    s_low = omega (arith, l.auto.row, c.requires.sized.low);
    s_high = omega (arith, l.auto.row, c.requires.sized.high);
    c_high = omega (arith, c.requires.far);
    d_high = c.requires.near;
  };
  fact_2 = omega (arith, room (goal.at.add_tap-requires c).In-loop-j, c.requires.room);
}

pub loop-j-preserved : goal.loop-j-preserved
loop-j-preserved c =
    let call = c.add_tap in
    let l = c.loop-j in
    let a = c.args in
    let m = a.v * get_or a.taps.now l.j 0 in
    taps_more a.mode (length a.row.now) a.taps.now a.c a.d a.v a.row.now l.row call.new.row l.j l.invariant
    (subst (λ (s : ℕ). Gained l.row call.new.row (λ t. m * sample a.mode s t (a.c + l.j) a.d)) l.auto.row call.ensures)

pub returns : goal.returns
unfolding tap_sum
returns c t =
    let l = c.loop-j in
    let a = c.args in
    let e : l.j ≡ length a.taps.now = omega arith in
    rw e at (l.invariant t)
