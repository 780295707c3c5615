-- The whole-number blur makes the bytes that the float blur makes with its numerators as weights, so it keeps what that keeps.
use mathlib.Core.Path.{◌≡◌}
use mathlib.Core.List.{List, map}
use Prim.Native.Nat.{ℕ}
use borrow.Author.Tests.{ltb-false}
use lib.Ieee.{Float}
use lib.ListN.{length-map}
use Rattle.picture.specs.declared.EdgeMode.{EdgeMode}
use Rattle.binary32.specs.Grid.{sum}
use Rattle.gaussian_blur.specs.Blurred.{blurred}
use Rattle.exact_blur.specs.Demand.{Bytes}
use Rattle.grid_sums.specs.Sums.{heavy}
use Rattle.grid_sums.specs.Room.{Numerators}
use Rattle.whole_blur.specs.Blurred.{whole_blurred}
use Rattle.profiles.specs.Same.{weight_on_grid}
use Rattle.profiles.proofs.Weights.{have_weights, grid_inside}
use Rattle.profiles.proofs.Same.{same_as_float}
use Rattle.premultiplied.specs.Stays.{KeepsPremultiplied}
use Rattle.premultiplied.proofs.Blurs.{blurred_keeps}

pub whole_keeps : (mode : EdgeMode) (ms : List ℕ) → Numerators ms → (n w h : ℕ) → KeepsPremultiplied w h (whole_blurred mode ms n w h)
unfolding heavy
whole_keeps mode ms kernel n w h =
    let fits = ltb-false 65536 (sum ms) kernel.light in
    let those = have_weights ms fits in
    let weights : List Float = map weight_on_grid ms in
    let keeps = blurred_keeps mode weights (record { counted = rw (length-map ms weight_on_grid) kernel.counted; in_unit = grid_inside weights those.on_grid }) n w h in
    let same : (p : List ℕ) → Bytes p → whole_blurred mode ms n w h p ≡ blurred mode weights n w h p = λ p b. same_as_float ms weights those fits mode n w h p b in
    record { bytes = λ p b. rw (same p b) (keeps.bytes p b); premultiplied = λ p b pre. rw (same p b) (keeps.premultiplied p b pre) }
