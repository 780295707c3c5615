-- A weight of 0 adds nothing.
use mathlib.Core.Path.{◌≡◌, refl}
use Prim.Native.Nat.{◌+◌}
use native.Mathlib.Nat.{add-zero, mul-zero}
use native.Mathlib.Omega.{arith}
use lib.ListN.{get_or}
use Rattle.grid_sums.proofs.add_part.Goals as goal

pub returns-else-k-gt0 : goal.returns-else-k-gt0
returns-else-k-gt0 c =
    let none : c.args.k ≡ 0 = omega arith in
    record {
      size = refl;
      inside = λ i l h. let here : 0 + i ≡ i = omega arith in rw (here, none, mul-zero (get_or c.args.src.now (c.args.a + i) 0), add-zero (get_or c.args.acc.now i 0));
      below = λ j h. refl;
      above = λ j h. refl;
    }
