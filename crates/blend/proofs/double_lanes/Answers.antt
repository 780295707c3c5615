use mathlib.Core.Path.{◌≡◌}
use Prim.Native.Nat.{ℕ, ◌+◌, ◌*◌, ◌≤◌}
use native.Mathlib.Nat.{add-mul, one-mul}
use native.Mathlib.Omega.{arith}
use lib.ListN.{length}
use Rattle.picture.proofs.Sizes.{room_is}
use Rattle.picture.proofs.Spans.{scale, within, span_same, span_join, span_element}
use Rattle.passes.specs.Passes.{double}
use Rattle.passes.specs.Written.{lane}
use Rattle.passes.proofs.Written.{element_made}
use Rattle.blend.proofs.Tapped.{element_ends}
use Rattle.blend.proofs.Outputs.{odd_inside, even_inside}
use Rattle.blend.proofs.Pairs.{pair_more, pair_size}
use Rattle.blend.proofs.double_lanes.Goals as goal
use Rattle.blend.proofs.double_lanes.Goals.{Start}

-- the second output follows the first
next : (x stride : ℕ) → (2 * x + 1) * stride + stride ≡ (2 * x + 2) * stride
next x stride = omega (arith, add-mul (2 * x + 1) 1 stride, one-mul stride)

-- both elements lie within src, and both outputs within dst
room : (st : Start) →
    let a = st.args in
    (a.start + a.x * a.stride + a.stride ≤ length a.src.now) × (a.start + (a.x + 1) * a.stride + a.stride ≤ length a.src.now) × (a.o + (2 * a.x + 1) * a.stride + a.stride + a.stride ≤ length a.dst.now)
room st =
    let a = st.args in (
      element_ends st.requires.1 a.x (omega arith),
      element_ends st.requires.1 (a.x + 1) (omega arith),
      omega (arith, next a.x a.stride, within a.o a.stride (2 * a.x + 2) (2 * a.x + 3) (omega arith), st.requires.1.dst_ends),
    )

pub loop-k-preserved : goal.loop-k-preserved
loop-k-preserved c =
    let g = c.before.before.before.before.before.before in
    let l = c.loop-k.invariant in
    pair_more l (omega arith) (omega (arith, room g.before.before.before, pair_size l)) (omega (arith, c.blend.ensures)) (omega (arith, c.blend-in-loop-k.ensures))

pub returns : goal.returns
returns c =
    let a = c.args in
    let x = a.x in
    let src = a.src.now in
    let all : c.loop-k.k ≡ a.stride = omega arith in
    let both = rw all at c.loop-k.invariant in
    let two : 2 * x + 1 + 1 ≡ 2 * x + 2 = omega arith in
    let three : 2 * x + 2 + 1 ≡ 2 * x + 3 = omega arith in
    λ mode.
    rw three at
    (span_join (omega (arith, scale 0 a.stride (2 * x + 1) (2 * x + 2) (omega arith))) (omega (arith, scale 0 a.stride (2 * x + 2) (2 * x + 2 + 1) (omega arith)))
    (rw two at
    (element_made (double mode) src a.start a.len a.stride (2 * x + 1)
    (span_same both.first (λ k _ _. odd_inside mode a.len x (lane src a.start a.stride k) c.requires.0))))
    (span_element (λ y k. double mode a.len (lane src a.start a.stride k) y) (2 * x + 2) (omega (arith, next x a.stride))
    (span_same both.second (λ k _ _. even_inside mode a.len x (lane src a.start a.stride k) c.requires.0))))

pub overflow_mul-a : goal.overflow_mul-a
overflow_mul-a c = omega (arith, room_is)

pub overflow_add-a : goal.overflow_add-a
overflow_add-a c = omega (arith, room_is)
