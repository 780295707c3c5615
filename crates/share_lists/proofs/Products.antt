-- The points of two axes: what is trimmed of a row holds nothing, and the products of two axes' shares are the shares of places.
use mathlib.Core.Path.{◌≡◌, ◌∙◌, ap, ap₂, sym, fun_ext}
use mathlib.Core.Logic.{⊎_elim}
use mathlib.Core.List.{List}
use Prim.Native.Nat.{ℕ, ◌*◌, ◌/◌, ◌%◌, ◌≤◌, ◌<◌}
use native.Mathlib.Nat.{mul_comm, mod-lt, div-lt_iff_lt-mul}
use native.Mathlib.Omega.{arith}
use borrow.Author.Tests.{lt-ltb, le-ltb}
use lib.ListN.{length, get_or, take, length-take, get_or-eq_default}
use lib.Seq.{get_or-take}
use Rattle.picture.specs.Answer.{Answer, answered, settled}
use Rattle.picture.specs.Build.{build}
use Rattle.picture.specs.Refusal.{first_else, first_of}
use Rattle.picture.specs.declared.EdgeMode.{EdgeMode}
use Rattle.picture.proofs.Build.{length_build, get_or-build}
use Rattle.picture.proofs.Spans.{le_or_lt}
use Rattle.share_laws.specs.Share.{share_at, axis_share}
use Rattle.share_laws.proofs.Separate.{separate}
use Rattle.points.specs.Points.{points_below, product_at}
use Rattle.points.specs.Needs.{EndNonzero}
use Rattle.points.proofs.Points.{points_same}
use Rattle.share_lists.specs.Listing.{PointsLeft, points_left, full_checks, list_done}

-- an element is the same where only zeros are cut off
module _ (row : List ℕ) (r : ℕ) (e : EndNonzero row r) where
  trimmed_at : (i : ℕ) → get_or (take r row) i 0 ≡ get_or row i 0
  trimmed_at i =
      ⊎_elim (λ (l : r ≤ i). get_or-eq_default (take r row) 0 (omega (arith, length-take r row)) ∙ sym (e.blank i l)) (λ (l : i < r). get_or-take r row i 0 l) (le_or_lt r i)

  pub trimmed : (w : ℕ) (ys : List ℕ) → product_at w (take r row) ys ≡ product_at w row ys
  trimmed w ys = fun_ext (λ k. ap (λ (a : ℕ). a * get_or ys (k / w) 0) (trimmed_at (k % w)))

-- the points of both axes' shares are those of the output
pub points_are : (mode : EdgeMode) (ms : List ℕ) (n w h out : ℕ) (xs ys : List ℕ) → 0 < w →
    xs ≡ build w (axis_share mode ms n w (out % w)) → ys ≡ build h (axis_share mode ms n h (out / w)) →
    points_below (product_at w xs ys) (h * w) ≡ points_below (share_at mode ms n w h out) (w * h)
points_are mode ms n w h out xs ys low ex ey =
    points_same (product_at w xs ys) (share_at mode ms n w h out) (h * w)
    (λ k l.
    ap₂ (λ (a b : ℕ). a * b)
    (ap (λ (q : List ℕ). get_or q (k % w) 0) ex ∙ get_or-build w (axis_share mode ms n w (out % w)) (k % w) (mod-lt k low))
    (ap (λ (q : List ℕ). get_or q (k / w) 0) ey ∙ get_or-build h (axis_share mode ms n h (out / w)) (k / w) ((div-lt_iff_lt-mul low).1 l))
    ∙ sym (separate mode ms n w h (out % w) (out / w) (k % w) (k / w)))
    ∙ ap (points_below (share_at mode ms n w h out)) (mul_comm h w)

-- the same, the rows' lengths being those of the axes
pub points_out : (mode : EdgeMode) (ms : List ℕ) (n w h out : ℕ) (xs ys : List ℕ) → 0 < w →
    xs ≡ build w (axis_share mode ms n w (out % w)) → ys ≡ build h (axis_share mode ms n h (out / w)) →
    points_below (product_at (length xs) xs ys) (length ys * length xs) ≡ points_below (share_at mode ms n w h out) (w * h)
points_out mode ms n w h out xs ys low ex ey =
    let wide : length xs ≡ w = ap length ex ∙ length_build w (axis_share mode ms n w (out % w)) in
    let tall : length ys ≡ h = ap length ey ∙ length_build h (axis_share mode ms n h (out / w)) in
    ap₂ (λ (a b : ℕ). points_below (product_at a xs ys) (b * a)) wide tall ∙ points_are mode ms n w h out xs ys low ex ey

-- a call of which check 17 alone is left: the list is full, or takes the points
abbrev pub list_settled : List (List ℕ) → List (List ℕ) → Answer PointsLeft
list_settled points list = settled (first_of (full_checks (length list) points)) (points_left list 0) (list_done points list)

pub list_full : (points list : List (List ℕ)) → length list < length points → answered 17 (points_left list 0) ≡ list_settled points list
unfolding settled first_of first_else
list_full points list l = rw (lt-ltb (length list) (length points) l)

pub list_taken : (points list : List (List ℕ)) → length points ≤ length list → answered 0 (list_done points list) ≡ list_settled points list
unfolding settled first_of first_else
list_taken points list l = rw (le-ltb (length list) (length points) l)
