-- The quotient by a power of ten, which is not 0, and its last digit, which is a byte with 48 more.
use native.Mathlib.Nat.{one-le-pow}
use native.Mathlib.Omega.{arith}
use Rattle.pam_format.specs.Header.{digit}
use Rattle.pam_format.proofs.digit.Goals as goal

pub nonzero_div-result : goal.nonzero_div-result
nonzero_div-result c = omega (arith, c.pow.ensures, one-le-pow c.args.k 10 (omega arith))

pub returns : goal.returns
unfolding digit
returns c = rw c.pow.ensures
