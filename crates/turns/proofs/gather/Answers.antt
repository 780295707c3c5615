use mathlib.Core.Path.{◌≡◌, refl}
use Prim.Native.Nat.{◌+◌, ◌*◌, ◌≤◌}
use native.Mathlib.Omega.{arith}
use lib.ListN.{length, get_or}
use Rattle.picture.proofs.Spans.{scale, within, span_none, span_join, span_element}
use Rattle.turns.proofs.gather.Goals as goal
use Rattle.turns.proofs.gather.Goals.{In-loop-y}

-- the element of a turn is read and written within the lists
ends : (c : In-loop-y) →
    let a = c.args in (a.p + c.loop-y.y * a.step + a.size ≤ length a.src.now) × (a.q + c.loop-y.y * a.size + a.size ≤ length c.loop-y.dst)
ends c =
    let a = c.args in
    (c.requires.fact_1 c.loop-y.y c.loop-y-test.true, omega (arith, within a.q a.size c.loop-y.y a.count c.loop-y-test.true, c.requires.fact_2, c.loop-y.invariant.size))

pub copy_element-requires : goal.copy_element-requires
copy_element-requires c = let e = ends (goal.at.copy_element-requires c).In-loop-y in record { fact_1 = e.0; fact_2 = e.1 }

pub loop-y-preserved : goal.loop-y-preserved
loop-y-preserved c =
    let a = c.args in
    span_join (omega arith) (omega (arith, scale 0 a.size c.loop-y.y (c.loop-y.y + 1) (omega arith))) c.loop-y.invariant (span_element (λ y k. get_or a.src.now (a.p + y * a.step + k) 0) c.loop-y.y refl c.copy_element.ensures)

pub returns : goal.returns
returns c =
    let all : c.loop-y.y ≡ c.args.count = omega (arith, c.loop-y-test.false) in
    rw all at c.loop-y.invariant

pub loop-y-init : goal.loop-y-init
loop-y-init c = span_none (omega arith)

pub overflow_mul-y : goal.overflow_mul-y
overflow_mul-y c = omega (arith, ends (goal.at.overflow_mul-y c).In-loop-y)

pub overflow_add-p : goal.overflow_add-p
overflow_add-p c = omega (arith, ends (goal.at.overflow_add-p c).In-loop-y)

pub overflow_mul-y-in-loop-y : goal.overflow_mul-y-in-loop-y
overflow_mul-y-in-loop-y c = omega (arith, ends (goal.at.overflow_mul-y-in-loop-y c).In-loop-y)

pub overflow_add-q : goal.overflow_add-q
overflow_add-q c = omega (arith, ends (goal.at.overflow_add-q c).In-loop-y)

pub shape_of-dst : goal.shape_of-dst
shape_of-dst c = c.loop-y.invariant.size
