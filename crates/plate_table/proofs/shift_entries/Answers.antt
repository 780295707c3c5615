use mathlib.Core.Path.{◌≡◌}
use Prim.Native.Nat.{◌<◌}
use native.Mathlib.Omega.{arith}
use Rattle.plate_numbers.specs.Numbers.{count}
use Rattle.plate_table.proofs.Retabled.{now_long, now_tabled, now_version, now_count, now_entry, now_more, none_yet}
use Rattle.plate_table.proofs.shift_entries.Goals as goal

pub count-n-requires : goal.count-n-requires
count-n-requires c = omega (arith, c.requires.tabled.inside)

pub loop-i-init : goal.loop-i-init
loop-i-init c = none_yet _ c.requires

-- entry i is one of the table's, and past the loop all are written
pub shift_entry-requires : goal.shift_entry-requires
shift_entry-requires c =
    let l = c.loop-i in
    let m : l.i < count c.args.bytes.now = omega (arith, c.count-n.ensures) in
    let is = l.invariant in (
      now_tabled _ c.requires l.i (omega arith) l.bytes is,
      rw (now_count _ c.requires l.i (omega arith) l.bytes is) m,
      rw (now_version _ c.requires l.i (omega arith) l.bytes is, now_entry _ c.requires l.i (omega arith) l.bytes is m) (c.requires.far l.i m),
    )

pub loop-i-preserved : goal.loop-i-preserved
loop-i-preserved c =
    let l = c.loop-i in
    let m : l.i < count c.args.bytes.now = omega (arith, c.count-n.ensures) in
    now_more _ c.requires l.i (omega arith) l.bytes l.invariant m _ c.shift_entry.ensures

pub shape_of-bytes : goal.shape_of-bytes
shape_of-bytes c =
    let l = c.loop-i in
    let all : l.i ≡ count c.args.bytes.now = omega (arith, c.count-n.ensures) in
    now_long _ c.requires l.i (omega arith) l.bytes l.invariant

pub returns : goal.returns
returns c =
    let all : c.loop-i.i ≡ count c.args.bytes.now = omega (arith, c.count-n.ensures) in
    rw (← all) c.loop-i.invariant
