-- The height stands after the width's digits and 17 bytes more.
use mathlib.Core.Path.{◌≡◌, ap, ◌∙◌}
use Prim.Native.Nat.{◌+◌}
use native.Mathlib.Omega.{arith}
use lib.ListN.{length}
use Rattle.pam_format.specs.Header.{digit_count, before_width, before_height}
use Rattle.pam_format.specs.Format.{side_at, width_in}
use Rattle.pam_format.proofs.Decimals.{digits_most, length_width, length_height}
use Rattle.pam_format.proofs.height_in.Goals as goal

pub overflow_add-digits : goal.overflow_add-digits
overflow_add-digits c = omega (arith, c.digits.ensures, digits_most c.width_in.result)

pub returns : goal.returns
returns c =
    let file = c.args.file.now in
    let place : 17 + c.digits.result ≡ length before_width + digit_count (width_in file) + length before_height =
    omega (arith, c.digits.ensures ∙ ap digit_count c.width_in.ensures, length_width, length_height) in
    c.number_at.ensures ∙ ap (side_at file) place
