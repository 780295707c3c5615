-- The shadow: a colour multiplied by its alpha does not exceed it, and a premultiplied picture over another is premultiplied.
use mathlib.Core.Bool.{Bool, true, false}
use mathlib.Core.List.{List}
use Prim.Native.Nat.{ℕ, zero, suc, ◌-◌, ◌≤◌}
use native.Mathlib.Nat.{mul-le-mul_right}
use native.Mathlib.Omega.{arith}
use lib.Ieee.{Float}
use Rattle.picture.specs.Planes.{Plane, chan, painted}
use Rattle.picture.specs.declared.EdgeMode.{EdgeMode}
use Rattle.picture.proofs.Planes.{chan_painted}
use Rattle.binary32.proofs.Channels.{byte_le}
use Rattle.pixels.proofs.Channels.{premultiply_le}
use Rattle.composite.specs.Channels.{norm_byte, shadow_alpha, over}
use Rattle.composite.specs.Shadow.{tinted, shadow_of, coloured, composed, written}
use Rattle.composite.specs.declared.Colour.{Colour}
use Rattle.composite.proofs.Whole.{over_is}
use Rattle.drop_shadow.specs.Shadowed.{colour_of, cast, shadowed}
use Rattle.drop_shadow.specs.declared.Recipe.{Recipe}
use Rattle.premultiplied.specs.Stays.{KeepsPremultiplied}
use Rattle.premultiplied.proofs.Painted.{Under, chan_byte, painted_keeps}

-- a colour's channel multiplied by an alpha is under it
tinted_le : (colour : Colour) (alpha c : ℕ) → tinted colour alpha c ≤ alpha
unfolding tinted norm_byte
tinted_le colour alpha zero = premultiply_le _ alpha (byte_le _)
tinted_le colour alpha (suc zero) = premultiply_le _ alpha (byte_le _)
tinted_le colour alpha (suc (suc zero)) = premultiply_le _ alpha (byte_le _)
tinted_le colour alpha (suc (suc (suc c))) = omega arith

-- channel c of the shadow's pixel beside its alpha
shadow_under : (colour : Colour) (a c : ℕ) → Under (shadow_of colour a c) (shadow_of colour a 3)
unfolding shadow_of tinted shadow_alpha norm_byte
shadow_under colour a c = (tinted_le colour _ c, byte_le _)

-- compositing keeps order on bytes
over_under : (s t d e a : ℕ) → Under s t → Under d e → a ≤ 255 → over s d a ≤ over t e a
over_under s t d e a p q l =
    let low = over_is s d a (omega (arith, p.0, p.1)) (omega (arith, q.0, q.1)) l in
    let high = over_is t e a p.1 q.1 l in
    omega (arith, low, high, p.0, mul-le-mul_right (255 - a) q.0)

over_byte : (s d a : ℕ) → over s d a ≤ 255
unfolding over norm_byte
over_byte s d a = byte_le _

module _ (mode : EdgeMode) (weights : List Float) (n : ℕ) (recipe : Recipe) (w h : ℕ) where
  -- channel c of the shadow that the picture casts
  abbrev shade : List ℕ → ℕ → Plane
  shade p c x y = shadow_of (colour_of recipe) (chan (cast mode weights n recipe w h p) w 3 x y) c

  shade_under : (p : List ℕ) (c x y : ℕ) → Under (shade p c x y) (shade p 3 x y)
  shade_under p c x y = shadow_under (colour_of recipe) (chan (cast mode weights n recipe w h p) w 3 x y) c

  -- the shadow alone is premultiplied whatever the picture was; with the original over it, where that was premultiplied
  pub shadow_keeps : (composite : Bool) → KeepsPremultiplied w h (shadowed mode weights n recipe composite w h)
  unfolding shadowed written coloured composed
  shadow_keeps false =
      painted_keeps w h shade (λ p bytes c x y. let u = shade_under p c x y in omega (arith, u.0, u.1)) (λ p bytes low c x y _ _ _. (shade_under p c x y).0)
  shadow_keeps true =
      painted_keeps w h (λ p c x y. over (chan p w c x y) (chan (painted w h (shade p)) w c x y) (chan p w 3 x y)) (λ p bytes c x y. over_byte _ _ _)
      (λ p bytes low c x y lc lx ly.
      rw (chan_painted w h (shade p) c x y (omega arith) lx ly, chan_painted w h (shade p) 3 x y (omega arith) lx ly)
      (over_under _ _ _ _ _ (low c x y lc lx ly, chan_byte p w 3 x y bytes) (shade_under p c x y) (chan_byte p w 3 x y bytes)))
