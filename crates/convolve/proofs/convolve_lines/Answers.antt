-- A line that is let into the small buffer has room there.
use native.Mathlib.Omega.{arith}
use Rattle.picture.specs.Refusal.{max_taps}
use Rattle.picture.proofs.Conditions.{right_taps}
use Rattle.picture.proofs.Sizes.{room_is}
use Rattle.convolve.proofs.convolve_lines.Goals as goal

pub overflow_add-len : goal.overflow_add-len
unfolding max_taps
overflow_add-len c =
    let p = c.requires in
    omega (arith, room_is, p.lined.len_high, ((right_taps _).0 p.kernel.counted).high)

pub convolve_short-requires : goal.convolve_short-requires
unfolding max_taps
convolve_short-requires c = let p = c.requires in record { fact_1 = p; fact_2 = omega (arith, c.if-stride-len.false, ((right_taps _).0 p.kernel.counted).low) }
