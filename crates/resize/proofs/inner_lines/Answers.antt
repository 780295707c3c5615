use mathlib.Core.Path.{◌≡◌, refl, ◌∙◌}
use Prim.Native.Nat.{ℕ, ◌+◌, ◌*◌, ◌≤◌, ◌<◌}
use native.Mathlib.Nat.{one-mul}
use native.Mathlib.Omega.{arith}
use lib.ListN.{length}
use Rattle.picture.proofs.Spans.{scale, span_ends}
use Rattle.resize.specs.Resize.{inner_to}
use Rattle.resize.proofs.Sizes.{Outs, outs}
use Rattle.resize.proofs.Outputs.{line_lies, parts_none, parts_more}
use Rattle.resize.proofs.inner_lines.Goals as goal
use Rattle.resize.proofs.inner_lines.Goals.{Start}

module _ (st : Start) where
  -- how many outputs there are, and that those inside are no more
  many : Outs st.args.kind st.args.len st.args.out
  many = let p = st.requires in outs st.args.kind st.args.len st.args.out p.len_low p.len_high p.makes

  inside : inner_to st.args.kind st.args.len * st.args.stride ≤ st.args.out * st.args.stride
  inside = omega (arith, scale 0 st.args.stride _ _ many.inner_high)

  -- a line of those lies within src, and what it becomes within dst
  reads : (y : ℕ) → let a = st.args in y < a.lines → y * (a.len * a.stride) + a.len * a.stride ≤ length a.src.now
  reads y = let a = st.args in line_lies a.src.now a.lines (a.len * a.stride) y st.requires.src_length

  writes : (y : ℕ) → let a = st.args in y < a.lines → y * (a.out * a.stride) + a.out * a.stride ≤ length a.dst.now
  writes y = let a = st.args in line_lies a.dst.now a.lines (a.out * a.stride) y st.requires.dst_length

pub resize_inner-requires : goal.resize_inner-requires
resize_inner-requires c =
    let s = (goal.at.resize_inner-requires c).Start in
    let y = c.loop-y.y in
    record {
      len_low = c.requires.len_low;
      len_high = c.requires.len_high;
      src_ends = reads s y c.loop-y-test.true;
      dst_ends = omega (arith, writes s y c.loop-y-test.true, inside s, c.loop-y.auto.dst);
    }

pub loop-y-preserved : goal.loop-y-preserved
loop-y-preserved c =
    let s = (goal.at.loop-y-preserved c).Start in
    let stride = c.args.stride in
    λ mode.
    parts_more c.loop-y.y (omega (arith, scale 0 stride 1 _ (many s).some, one-mul stride)) (inside s) (c.loop-y.invariant mode) (span_ends (c.resize_inner.ensures mode) (one-mul stride) refl)

pub returns : goal.returns
returns c =
    let all : c.loop-y.y ≡ c.args.lines = omega (arith, c.loop-y-test.false) in
    rw all at c.loop-y.invariant
