-- The part from `at` on is the number, and what lies outside it is as it was.
use mathlib.Core.Path.{◌≡◌, sym, ap, ◌∙◌}
use Prim.Native.Nat.{ℕ, ◌+◌}
use lib.ListN.{length}
use Rattle.pam_format.specs.Header.{decimal}
use Rattle.pam_format.proofs.Decimals.{length_decimal}
use Rattle.pam_format.proofs.Lines.{part_is}
use Rattle.pam_format.proofs.put_number.Goals as goal

pub returns : goal.returns
returns c =
    let a = c.args in
    let long : c.digits.result ≡ length (decimal a.n) = c.digits.ensures ∙ sym (length_decimal a.n) in
    (ap (λ (n : ℕ). a.at + n) long, part_is a.at c.digits.result (decimal a.n) a.line.now _ c.write_decimal.ensures long)
