use mathlib.Core.Path.{◌≡◌, refl, ap, ◌∙◌}
use Prim.Native.Nat.{ℕ, ◌+◌, ◌*◌, ◌/◌, ◌≤◌}
use native.Mathlib.Nat.{mul_comm, one-mul}
use native.Mathlib.Omega.{arith}
use lib.ListN.{length, length-take, length-drop}
use Rattle.picture.proofs.Spans.{within}
use Rattle.binary32.specs.Round.{whole_offset}
use Rattle.plane_shift.proofs.Shifted.{none_moved, plane_more, all_moved}
use Rattle.plane_shift.proofs.offset_planes.Goals as goal
use Rattle.plane_shift.proofs.offset_planes.Goals.{Start, In-loop-c}

pub loop-c-init : goal.loop-c-init
loop-c-init c = let a = c.args in (refl, none_moved (whole_offset a.dx) (whole_offset a.dy) a.size.w a.size.h a.planes.now)

-- there are four planes
four : (s : Start) → length s.args.planes.now ≡ 4 * (s.args.size.h * s.args.size.w)
four s = s.requires.pictured.exact ∙ ap (λ (k : ℕ). 4 * k) (mul_comm s.args.size.w s.args.size.h)

-- plane c lies inside
room : (c : In-loop-c) → let all = length c.args.planes.now in c.loop-c.c * (all / 4) + all / 4 ≤ all
room c = omega (arith, within 0 (length c.args.planes.now / 4) c.loop-c.c 4 (omega arith))

pub overflow_mul-start : goal.overflow_mul-start
overflow_mul-start c = omega (arith, room c)

pub overflow_add-start : goal.overflow_add-start
overflow_add-start c = omega (arith, room c)

pub slice_bounds-offset_plane-count : goal.slice_bounds-offset_plane-count
slice_bounds-offset_plane-count c = omega arith

pub slice_bounds-offset_plane-start : goal.slice_bounds-offset_plane-start
slice_bounds-offset_plane-start c = omega (arith, room c)

pub slice_bounds-offset_plane-end : goal.slice_bounds-offset_plane-end
slice_bounds-offset_plane-end c = omega (arith, room c)

pub offset_plane-requires : goal.offset_plane-requires
offset_plane-requires c =
    let s = c.before.before.before.before in
    record {
      sized = c.requires.pictured.sized;
      exact = rw (one-mul c.args.size.w) (simp (length-take, length-drop) (omega (arith, room c.before, four s)));
      offsets = c.requires.offsets;
    }

pub loop-c-preserved : goal.loop-c-preserved
loop-c-preserved c =
    let l = c.before.before.before.before.before.before in
    let s = l.before.before in
    let a = c.args in
    let moved =
    plane_more (whole_offset a.dx) (whole_offset a.dy) a.size.w a.size.h a.planes.now c.loop-c.planes c.offset_plane.new.plane c.loop-c.c (length a.planes.now / 4)
    (omega (arith, four s)) (four s) (omega arith) c.loop-c.invariant.1 c.offset_plane.auto.plane c.offset_plane.ensures in
    (moved.size, moved)

pub returns : goal.returns
returns c =
    let l = c.before in
    let s = l.before.before in
    let a = c.args in
    let all : c.loop-c.c ≡ 4 = omega arith in
    all_moved (whole_offset a.dx) (whole_offset a.dy) a.size.w a.size.h a.planes.now c.loop-c.planes (four s) (rw all at c.loop-c.invariant.1)
