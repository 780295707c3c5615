-- A length that four divides equals four times the product where its quarter equals the product.
use mathlib.Core.Path.{refl, ap}
use mathlib.Core.Bool.{not}
use Prim.Native.Nat.{◌*◌, ◌%◌}
use native.Mathlib.Omega.{arith}
use borrow.Author.Tests.{ne_eqb}
use Rattle.picture.specs.Planes.{bytes_of}
use Rattle.picture.specs.Refusal.{wrong_length}
use Rattle.picture.proofs.Quarter.{eqb_quarter, area}
use Rattle.picture.proofs.checks.wrong_length.Goals as goal

pub returns-then-len-ne0 : goal.returns-then-len-ne0
unfolding wrong_length
returns-then-len-ne0 c =
    let a = c.args in
    let f = c.if-len-ne0.true in
    rw (ne_eqb (a.len % 4) 0 f, ne_eqb a.len (bytes_of a.w a.h) (λ e. f (omega arith))) refl

pub overflow_mul-result : goal.overflow_mul-result
overflow_mul-result c =
    omega (arith, area c.args.w c.args.h c.ranges.w.fits c.ranges.h.fits)

pub returns-else-len-ne0 : goal.returns-else-len-ne0
unfolding wrong_length
returns-else-len-ne0 c = let a = c.args in ap not (eqb_quarter a.len (a.w * a.h) c.if-len-ne0.false)
