-- The checks of shares: 1, 4, 9, 21, 22 and 14, in this order.
use Rattle.std.specs.Prelude.{Bool, List, [], ◌∷◌, ℕ, ◌*◌, ltb, leb, length}
use Rattle.picture.specs.Refusal.{Check, check, wrong_sides, wrong_taps, wrong_edge}
use Rattle.grid_sums.specs.Sums.{heavy}

-- the most decimations that shares are worked out for
unfoldable pub max_share_depth : ℕ
max_share_depth = 3

-- 21: n is above 3
unfoldable pub too_deep_to_share : ℕ → Bool
too_deep_to_share n = ltb max_share_depth n

-- 22: a place, y·w + x, is not one of the picture's w·h
unfoldable pub place_outside : ℕ → ℕ → ℕ → Bool
place_outside w h place = leb (w * h) place

-- the checks, of whether a place lies outside
abbrev pub share_checks : ℕ → ℕ → List ℕ → ℕ → ℕ → Bool → List Check
share_checks w h numerators n edge outside =
    check 1 (wrong_sides w h)
    ∷ check 4 (wrong_taps (length numerators))
    ∷ check 9 (wrong_edge edge)
    ∷ check 21 (too_deep_to_share n)
    ∷ check 22 outside
    ∷ check 14 (heavy numerators)
    ∷ []
