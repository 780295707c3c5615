use mathlib.Core.Path.{◌≡◌, refl}
use Prim.Native.Nat.{ℕ, ◌+◌, ◌*◌, ◌≤◌, ◌<◌}
use native.Mathlib.Omega.{arith}
use lib.ListN.{length}
use Rattle.blend.proofs.Tapped.{taps_room}
use Rattle.resize.proofs.Outputs.{line_lies, parts_none, parts_more, run_from_lem}
use Rattle.resize.proofs.blend_ends.Goals as goal
use Rattle.resize.proofs.blend_ends.Goals.{Start}

-- a line of those lies within src, and what it becomes within dst
module _ (st : Start) (y : ℕ) (l : y < st.args.lines) where
  reads : let a = st.args in y * (a.len * a.stride) + a.len * a.stride ≤ length a.src.now
  reads = let a = st.args in line_lies a.src.now a.lines (a.len * a.stride) y st.requires.src_length l

  writes : let a = st.args in y * (a.out * a.stride) + a.out * a.stride ≤ length a.dst.now
  writes = let a = st.args in line_lies a.dst.now a.lines (a.out * a.stride) y st.requires.dst_length l

pub blend_element-requires : goal.blend_element-requires
blend_element-requires c =
    let s = (goal.at.blend_element-requires c).Start in
    taps_room c.requires.fit (reads s c.loop-y.y c.loop-y-test.true) (omega (arith, writes s c.loop-y.y c.loop-y-test.true, c.requires.inside, c.loop-y.invariant.size))

pub loop-y-preserved : goal.loop-y-preserved
loop-y-preserved c =
    let at = c.args.at in
    parts_more c.loop-y.y (omega (arith, c.requires.inside)) c.requires.inside c.loop-y.invariant (run_from_lem at refl c.blend_element.ensures)
