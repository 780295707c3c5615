-- The channels of a picture made anew: how many there are, and which.
use mathlib.Core.Path.{◌≡◌, ◌∙◌}
use mathlib.Core.List.{List}
use Prim.Native.Nat.{ℕ, ◌+◌, ◌*◌, ◌/◌, ◌%◌, ◌<◌}
use native.Mathlib.Omega.{arith}
use lib.ListN.{length}
use Rattle.picture.specs.Planes.{bytes_of, painted}
use Rattle.picture.proofs.Build.{length_build, get_or-build}
use Rattle.pixels.proofs.Painting.{at, chan_here}
use Rattle.pam_convert.specs.Straight.{recoloured_channel, recoloured}

-- channel c of pixel i made anew
abbrev pub anew : (ℕ → ℕ → ℕ) → List ℕ → ℕ → ℕ → ℕ
anew f bytes i c = recoloured_channel f c (at bytes i c) (at bytes i 3)

module _ (f : ℕ → ℕ → ℕ) (w h : ℕ) (bytes : List ℕ) where
  pub length_recoloured : length (recoloured f w h bytes) ≡ bytes_of w h
  unfolding recoloured painted
  length_recoloured = length_build (bytes_of w h) _

  -- channel c of pixel i
  pub recoloured_at : (i c : ℕ) → i < w * h → c < 4 → at (recoloured f w h bytes) i c ≡ anew f bytes i c
  unfolding recoloured painted
  recoloured_at i c l m =
      let place : (4 * i + c) / 4 ≡ i = omega arith in
      let channel : (4 * i + c) % 4 ≡ c = omega arith in
      get_or-build (bytes_of w h) _ (4 * i + c) (omega arith) ∙ rw (place, channel, chan_here bytes w c i, chan_here bytes w 3 i)
