use mathlib.Core.Path.{◌≡◌, ◌∙◌, ap}
use Prim.Native.Nat.{ℕ, suc, ◌+◌, ◌-◌}
use native.Mathlib.Omega.{arith}
use lib.ListN.{length}
use Rattle.picture.specs.Build.{build}
use Rattle.picture.proofs.Filled.{fills_none, fills_more, fills_build}
use Rattle.pam_format.specs.Header.{digit_count, digit, decimal}
use Rattle.pam_format.proofs.Decimals.{digits_most}
use Rattle.pam_format.proofs.write_decimal.Goals as goal

pub digit-requires : goal.digit-requires
digit-requires c = omega (arith, digits_most c.args.n)

pub loop-i-preserved : goal.loop-i-preserved
loop-i-preserved c =
    let a = c.args in
    let place : length c.args.out.now - (c.loop-i.i + 1) ≡ digit_count a.n - suc c.loop-i.i = omega (arith, c.requires) in
    fills_more c.loop-i.invariant (omega arith) (c.digit.ensures ∙ ap (digit a.n) place)

pub returns : goal.returns
unfolding decimal
returns c =
    fills_build c.loop-i.invariant (omega arith) ∙ ap (λ (k : ℕ). build k (λ (i : ℕ). digit c.args.n (digit_count c.args.n - suc i))) c.requires

pub loop-i-init : goal.loop-i-init
loop-i-init c = fills_none
