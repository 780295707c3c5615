-- What is rounded are the sums.
use mathlib.Core.Path.{ap}
use Prim.Native.Nat.{ℕ, ◌+◌, ◌/◌}
use native.Mathlib.Omega.{arith}
use Rattle.picture.proofs.Spans.{span_same}
use Rattle.grid_sums.specs.Sums.{whole_convolve}
use Rattle.grid_sums.proofs.Lanes.{grid_fits}
use Rattle.grid_sums.proofs.weigh.Goals as goal

pub round_sums-requires : goal.round_sums-requires
round_sums-requires c =
    let a = c.args in
    let p = c.requires in
    record {
      fact_1 = p.fact_1;
      fact_2 = omega (arith, c.add_taps.auto.acc, p.fact_2);
      fact_3 = (λ i h. omega (arith, c.add_taps.ensures i h, grid_fits a.mode a.numerators.now a.src.now a.start a.len a.stride a.run.x a.run.from i p.fact_3 (λ k. omega (arith, c.type_inv.src k))));
    }

pub returns : goal.returns
unfolding whole_convolve
returns c =
    span_same c.round_sums.ensures (λ i l h. ap (λ (v : ℕ). (v + 32768) / 65536) (c.add_taps.ensures i h))
