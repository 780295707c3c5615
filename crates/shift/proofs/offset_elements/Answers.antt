-- Rows of elements are a plane of bytes, and the offsets are counted in bytes across.
use mathlib.Core.Path.{◌≡◌, ap, ◌∙◌}
use Prim.Native.Nat.{ℕ, ◌*◌, ◌≤◌}
use native.Mathlib.Nat.{mul-le-mul}
use native.Mathlib.Omega.{arith}
use Rattle.picture.proofs.Sizes.{room_is}
use Rattle.binary32.specs.Round.{whole_offset}
use Rattle.binary32.specs.declared.Offset.{Offset}
use Rattle.binary32.proofs.Offsets.{held}
use Rattle.shift.proofs.Rounded.{one_way, one_way_bytes, both_finite, rounded_held, elements_length, elements_moved}
use Rattle.shift.proofs.offset_elements.Goals as goal
use Rattle.shift.proofs.offset_elements.Goals.{Start}
use Rattle.shift.proofs.offset_elements.Lts as lts
use Rattle.shift.proofs.offset_elements.Reads as reads
use Rattle.shift.proofs.offset_elements.Tie as tie

abbrev the_After-height-h : Type 0
the_After-height-h = lts.After-height tie.the-claims reads.Pre reads.Post tie.handed_clauses

abbrev the_After-round_offset-down : Type 0
the_After-round_offset-down = lts.After-round_offset2 tie.the-claims reads.Pre reads.Post tie.handed_clauses

abbrev start : the_After-height-h → Start
start c = c.before.before.before

-- the sides are the size's, and have room
sides : (c : the_After-height-h) → let z = c.args.size in (c.width-w.result ≡ z.w) × (c.height-h.result ≡ z.h)
sides c = (c.width-w.ensures, c.height-h.ensures)

fits : (c : the_After-height-h) → let z = c.args.size in (z.w ≤ 65536) × (z.h ≤ 65536)
fits c = let z = c.requires.fact_2.sized in (omega (arith, z.w_high, room_is), omega (arith, z.h_high, room_is))

pub round_offset-across-requires : goal.round_offset-across-requires
round_offset-across-requires c = omega (arith, sides c.before, fits c.before)

pub round_offset-down-requires : goal.round_offset-down-requires
round_offset-down-requires c = omega (arith, sides c.before.before, fits c.before.before)

-- the offsets are rounded, and held to the sides
across : (c : the_After-round_offset-down) → let a = c.args in c.round_offset-across.result ≡ held a.size.w (whole_offset a.dx)
across c =
    rounded_held _ _ _ _ (sides c.before.before).0 (both_finite c.args.dx c.args.dy c.requires.fact_2.offsets).0 c.round_offset-across.ensures

down : (c : the_After-round_offset-down) → let a = c.args in c.round_offset-down.result ≡ held a.size.h (whole_offset a.dy)
down c =
    rounded_held _ _ _ _ (sides c.before.before).1 (both_finite c.args.dx c.args.dy c.requires.fact_2.offsets).1 c.round_offset-down.ensures

-- whatever is at most a side, counted in bytes, fits
in_bytes : (c : the_After-height-h) (k : ℕ) → k ≤ 65536 → c.args.lanes * k ≤ 262144
in_bytes c k l = mul-le-mul {n₁ = c.args.lanes} {m₁ = k} {n₂ = 4} {m₂ = 65536} c.requires.fact_1 l

pub overflow_mul-lanes : goal.overflow_mul-lanes
overflow_mul-lanes c = let m = c.before.before.before in omega (arith, in_bytes m c.width-w.result (omega (arith, sides m, fits m)))

pub overflow_mul-lanes-2 : goal.overflow_mul-lanes-2
overflow_mul-lanes-2 c = let r = c.before.before in let m = r.before.before in omega (arith, in_bytes m c.round_offset-across.result.plus (omega (arith, ap (λ (o : Offset). o.plus) (across r), fits m)))

pub overflow_mul-lanes-3 : goal.overflow_mul-lanes-3
overflow_mul-lanes-3 c = let r = c.before.before.before in let m = r.before.before in omega (arith, in_bytes m c.round_offset-across.result.minus (omega (arith, ap (λ (o : Offset). o.minus) (across r), fits m)))

pub move_plane-requires : goal.move_plane-requires
move_plane-requires c =
    let r = c.before.before.before in
    let m = r.before.before in (
      elements_length c.args.lanes _ _ c.args.size.w c.args.size.h (sides m).0 (sides m).1 c.args.bytes.now c.requires.fact_2.exact,
      one_way_bytes c.args.lanes _ (rw (across r) (omega (arith, one_way c.args.dx))),
      rw (down r) (omega (arith, one_way c.args.dy)),
    )

pub returns : goal.returns
returns c =
    let r = c.before.before.before.before.before.before.before in
    let m = r.before.before in
    let a = c.args in
    c.move_plane.ensures
    ∙ elements_moved a.lanes _ _ a.size.w a.size.h (sides m).0 (sides m).1 a.bytes.now _ _ a.dx a.dy c.round_offset-across.ensures c.round_offset-down.ensures
