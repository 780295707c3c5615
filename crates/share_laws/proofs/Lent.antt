-- The exact blur explained of a picture's bytes, and how near the blur is to what its shares come to.
use mathlib.Core.Path.{◌≡◌, ◌∙◌, ap, subst}
use mathlib.Core.List.{List}
use Prim.Native.Nat.{ℕ, ◌+◌, ◌*◌, ◌/◌, ◌%◌, ◌<◌}
use native.Mathlib.Nat.{mul_comm, mod-lt, div-lt_iff_lt-mul, div-add-mod', zero-mul, mul-zero}
use native.Mathlib.Omega.{arith}
use lib.Ieee.{Float}
use lib.ListN.{get_or}
use Rattle.picture.specs.Planes.{chan}
use Rattle.picture.specs.declared.EdgeMode.{EdgeMode}
use Rattle.binary32.specs.Grid.{numerators}
use Rattle.exact_blur.specs.Demand.{steps_of, Within, NearExact}
use Rattle.exact_blur.proofs.Near.{near_exact}
use Rattle.exact_blur.proofs.Graded.{graded}
use Rattle.share_laws.specs.Share.{share_at}
use Rattle.share_laws.specs.Explained.{explained_sum, ExplainedBytes, NearShares, SharesOfTheBlur, SharesOfTheEntry}
use Rattle.share_laws.proofs.Sums.{sum_same}
use Rattle.share_laws.proofs.Explained.{explained}

-- channel c of pixel k is byte 4k + c
chan_at : (bytes : List ℕ) (w c k : ℕ) → chan bytes w c (k % w) (k / w) ≡ get_or bytes (4 * k + c) 0
unfolding chan
chan_at bytes w c k = ap (λ (i : ℕ). get_or bytes (4 * i + c) 0) (div-add-mod' k w)

pub explained_bytes : ExplainedBytes
explained_bytes mode ms n w h bytes c out zw zh =
    explained mode ms n w h (chan bytes w c) (out % w) (out / w) zw zh
    ∙ sum_same _ _ (w * h) (λ k _. ap (λ (a : ℕ). a * share_at mode ms n w h out k) (chan_at bytes w c k))

-- a picture with a pixel has sides
sides : (w h k : ℕ) → k < w * h → (0 < w) × (0 < h)
sides w h k l = (pos w (λ z. omega (arith, ap (λ (a : ℕ). a * h) z, zero-mul h)), pos h (λ z. omega (arith, ap (λ (a : ℕ). w * a) z, mul-zero w)))
  where
    pos : (a : ℕ) → (a ≡ 0 → ⊥) → 0 < a
    pos a f = omega arith

-- near the exact blur is near what the shares come to
near_shares : (mode : EdgeMode) (weights : List Float) (n w h : ℕ) (p picture : List ℕ) → NearExact mode weights n w h p picture → NearShares mode weights n w h p picture
near_shares mode weights n w h p picture near c out lc lo =
    let s = sides w h out lo in
    subst (λ (a : ℕ). Within (steps_of n) n a (explained_sum mode (numerators weights) n w h p c out)) (chan_at picture w c out)
    (subst (λ (b : ℕ). Within (steps_of n) n (chan picture w c (out % w) (out / w)) b) (explained_bytes mode (numerators weights) n w h p c out s.0 s.1)
    (near c (out % w) (out / w) lc (mod-lt out s.0) ((div-lt_iff_lt-mul s.0).1 (omega (arith, mul_comm w h)))))

pub shares_near : SharesOfTheBlur
shares_near mode weights kernel n w h p bytes = near_shares mode weights n w h p _ (near_exact mode weights kernel n w h p bytes)

pub shares_graded : SharesOfTheEntry
shares_graded κs a r x e zero on kernel bytes = near_shares _ a.1.1.1.1.0.now _ _ _ a.0.now x.0.now (graded κs a r x e zero on kernel bytes)
