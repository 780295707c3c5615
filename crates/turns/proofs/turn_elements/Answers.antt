use mathlib.Core.Path.{◌≡◌, ◌∙◌}
use Prim.Native.Nat.{ℕ, ◌+◌, ◌*◌, ◌≤◌, ◌<◌}
use native.Mathlib.Omega.{arith}
use lib.ListN.{length}
use Rattle.picture.proofs.Build.{build_ext}
use Rattle.picture.proofs.Spans.{scale, within, span_none, span_join, span_at, span_element}
use Rattle.turns.specs.Turned.{turned_byte, turned}
use Rattle.turns.proofs.turn_elements.Goals as goal
use Rattle.turns.proofs.turn_elements.Goals.{In-loop-x}

-- element x of line y lies within the lines
inside : (lines len size x y : ℕ) → x < len → y < lines → x * size + y * (len * size) + size ≤ lines * (len * size)
inside lines len size x y lx ly = omega (arith, within 0 size x len lx, within 0 (len * size) y lines ly)

-- the elements of a turn are read and written within the lists, and so is a line
read : (c : In-loop-x) → let a = c.args in (y : ℕ) → y < a.lines → c.loop-x.x * a.size + y * (a.len * a.size) + a.size ≤ length a.src.now
read c y l =
    let a = c.args in
    omega (arith, inside a.lines a.len a.size c.loop-x.x y c.loop-x-test.true l, c.requires.src_size)

writes : (c : In-loop-x) → let n = c.args.lines * c.args.size in c.loop-x.x * n + n ≤ length c.loop-x.dst
writes c =
    let a = c.args in
    omega (arith, within 0 (a.lines * a.size) c.loop-x.x a.len c.loop-x-test.true, c.requires.dst_size, c.loop-x.invariant.size)

line : (c : In-loop-x) → let a = c.args in a.len * a.size ≤ length a.src.now
line c =
    omega (arith, within 0 (c.args.len * c.args.size) 0 c.args.lines c.requires.some, c.requires.src_size)

pub loop-x-preserved : goal.loop-x-preserved
loop-x-preserved c =
    let b = c.args in
    let n = b.lines * b.size in
    span_join (omega arith) (omega (arith, scale 0 n c.loop-x.x (c.loop-x.x + 1) (omega arith))) c.loop-x.invariant (span_element (turned_byte b.src.now b.len b.size) c.loop-x.x (omega arith) c.gather.ensures)

pub returns : goal.returns
unfolding turned
returns c =
    let all : c.loop-x.x ≡ c.args.len = omega (arith, c.loop-x-test.false) in
    let made = rw all at c.loop-x.invariant in
    build_ext _ _ c.loop-x.dst (made.size ∙ c.requires.dst_size) (λ i h. span_at made i (omega arith) (omega arith) h)

pub loop-x-init : goal.loop-x-init
loop-x-init c = span_none (omega arith)

pub overflow_mul-x : goal.overflow_mul-x
overflow_mul-x c = omega (arith, read (goal.at.overflow_mul-x c).In-loop-x 0 c.requires.some)

pub overflow_mul-len : goal.overflow_mul-len
overflow_mul-len c = omega (arith, line (goal.at.overflow_mul-len c).In-loop-x)

pub overflow_mul-lines : goal.overflow_mul-lines
overflow_mul-lines c = omega (arith, writes (goal.at.overflow_mul-lines c).In-loop-x)

pub overflow_mul-x-in-loop-x : goal.overflow_mul-x-in-loop-x
overflow_mul-x-in-loop-x c = omega (arith, writes (goal.at.overflow_mul-x-in-loop-x c).In-loop-x)

pub gather-requires : goal.gather-requires
gather-requires c = let t = (goal.at.gather-requires c).In-loop-x in record { fact_1 = read t; fact_2 = writes t }

pub shape_of-dst : goal.shape_of-dst
shape_of-dst c = c.loop-x.invariant.size
