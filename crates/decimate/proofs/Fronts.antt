-- Bytes that a call put in the place of a list's first n: they are its first n, and the list is as long as it was.
use mathlib.Core.Path.{◌≡◌, ap, ◌∙◌}
use mathlib.Core.List.{List, ◌++◌}
use Prim.Native.Nat.{ℕ, ◌≤◌}
use native.Mathlib.Omega.{arith}
use lib.ListN.{length, take, drop}
use lib.Seq.{length-take-le, length_front, take_at}

module _ (n : ℕ) (l made : List ℕ) (r : n ≤ length l) (e : length made ≡ length (take n l)) where
  pub front_is : take n (made ++ drop n l) ≡ made
  front_is = take_at _ _ _ (e ∙ length-take-le _ _ r)

  pub front_size : length (take n (made ++ drop n l)) ≡ n
  front_size = ap length front_is ∙ e ∙ length-take-le _ _ r

  pub front_fits : {m : ℕ} → m ≤ length l → m ≤ length (made ++ drop n l)
  front_fits f = omega (arith, f, length_front l made n e)
