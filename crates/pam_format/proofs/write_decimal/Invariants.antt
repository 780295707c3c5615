-- The first i digits are written, and the other bytes are as they were.
use Prim.Native.Nat.{suc, ◌-◌}
use Rattle.picture.proofs.Filled.{Filling}
use Rattle.pam_format.specs.Header.{digit_count, digit}
use Rattle.pam_format.proofs.write_decimal.Given as goal

abbrev pub invariant-loop-i : goal.invariant-loop-i
invariant-loop-i l = Filling 0 (λ i. digit l.n (digit_count l.n - suc i)) l.initial.out l.out l.i
