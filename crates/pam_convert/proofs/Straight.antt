-- Laws of a channel there and back: it survives outward and inward, and an opaque one stays either way.
use mathlib.Core.Path.{◌≡◌}
use mathlib.Core.Bool.{Bool, true, false}
use Prim.Native.Nat.{ℕ, zero, suc, ◌≤◌, ◌<◌}
use native.Mathlib.Omega.{arith}
use Rattle.pixels.specs.Channels.{premultiply}
use Rattle.unmultiply.specs.Outward.{outward}
use Rattle.unmultiply.proofs.Outward.{at_most, at_least, outward_opaque}
use Rattle.pam_convert.specs.Straight.{rule}

-- times a the nearest whole number to 255c / a is 255c to half of a: too little for the next c
pub survives : (c a : ℕ) → c ≤ a → a ≤ 255 → premultiply (outward c a) a ≡ c
unfolding premultiply
survives c zero l b = omega arith
survives c (suc a) l b = let some : 0 < suc a = omega arith in omega (arith, at_most c (suc a) some, at_least c (suc a) some)

-- a channel of an opaque pixel is as it was
pub premultiply_opaque : (c : ℕ) → premultiply c 255 ≡ c
unfolding premultiply
premultiply_opaque c = omega arith

pub rule_opaque : (out : Bool) (c : ℕ) → rule out c 255 ≡ c
rule_opaque true c = outward_opaque c
rule_opaque false c = premultiply_opaque c
