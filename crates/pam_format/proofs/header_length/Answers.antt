-- The words of the header, and the digits of both sides.
use native.Mathlib.Omega.{arith}
use Rattle.pam_format.proofs.Decimals.{digits_most, length_header}
use Rattle.pam_format.proofs.header_length.Goals as goal

pub overflow_add-result : goal.overflow_add-result
overflow_add-result c = omega (arith, digits_most c.args.w)

pub overflow_add-result-2 : goal.overflow_add-result-2
overflow_add-result-2 c = omega (arith, digits_most c.args.w, digits_most c.args.h)

pub returns : goal.returns
returns c = let a = c.args in omega (arith, length_header a.w a.h)
