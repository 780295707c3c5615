use mathlib.Core.Path.{◌≡◌, refl, ◌∙◌}
use Prim.Native.Nat.{◌+◌, ◌*◌, ◌≤◌}
use native.Mathlib.Nat.{add-mul, one-mul}
use native.Mathlib.Omega.{arith}
use lib.ListN.{length}
use Rattle.picture.proofs.Planes.{quotient, remainder}
use Rattle.picture.proofs.Spans.{within}
use Rattle.blocks.proofs.Progress.{made_none, made_run, made_join}
use Rattle.blocks.proofs.fill.Goals as goal
use Rattle.blocks.proofs.fill.Goals.{In-loop-e}

pub loop-e-init : goal.loop-e-init
loop-e-init c = (refl, made_none (λ t r. omega arith))

-- the values of element e end within the line
room : (c : In-loop-e) →
    let a = c.args in c.loop-e.e * a.n + a.n ≤ length c.loop-e.line
room c =
    omega (arith, within 0 c.args.n c.loop-e.e c.args.last c.loop-e-test.true, c.requires.fact_1.1, c.loop-e.invariant.0)

pub fill_element-requires : goal.fill_element-requires
fill_element-requires c =
    let r = c.requires.fact_4 in
    record {
      fact_1 = room (goal.at.fill_element-requires c).In-loop-e;
      fact_2 = c.requires.fact_2;
      fact_3 = c.requires.fact_3;
      fact_4 = record { s_low = r.s_low; s_high = r.s_high; c_high = omega arith; d_high = r.d_high };
    }

pub loop-e-preserved : goal.loop-e-preserved
loop-e-preserved c =
    let a = c.args in
    let e = c.loop-e.e in
    let n = a.n in
    let next : (e + 1) * n ≡ e * n + n = omega (arith, add-mul e 1 n, one-mul n) in (
      c.fill_element.auto.line ∙ c.loop-e.invariant.0,
      made_join (λ k. k) (e * n) c.loop-e.invariant.1
          (made_run c.fill_element.ensures (λ k h. rw (quotient n e k h, remainder n e k h)))
          (λ k r u. omega arith)
          (λ k r u. omega arith),
    )

pub returns : goal.returns
returns c = let e : c.loop-e.e ≡ c.args.last = omega arith in rw e at c.loop-e.invariant.1

pub overflow_mul-e : goal.overflow_mul-e
overflow_mul-e c = omega (arith, room (goal.at.overflow_mul-e c).In-loop-e)

pub shape_of-line : goal.shape_of-line
shape_of-line c = c.loop-e.invariant.0
