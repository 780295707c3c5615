-- The marked cases of rule 11 as one table: what the definitions give of each input, and what the rule says.
use Rattle.std.specs.Prelude.{◌≡◌, refl, true, false, List, [], ◌∷◌, map, ℕ, ◌+◌, ℤ, pos, negsuc, get_or, Float}
use Rattle.std.specs.Float.{fin}
use Rattle.std.specs.Float.Ieee.{is_nan, lt, neg, add, sub, mul, div, of_int}
use Rattle.picture.specs.Planes.{Line, chan, painted, cleared, laid}
use Rattle.picture.specs.Build.{build}
use Rattle.picture.specs.Sizes.{max_side}
use Rattle.picture.specs.Modes.{mode_of}
use Rattle.picture.specs.Refusal.{first_else, first_of, zero_or_above, wrong_sides, wrong_length, too_short, max_taps, wrong_taps, max_decimations, too_deep, wrong_edge}
use Rattle.picture.specs.Answer.{Answer, Lent, settled}
use Rattle.picture.specs.declared.EdgeMode.{EdgeMode}
use Rattle.picture.specs.declared.EdgeMode.TheVariants.{Duplicate, Wrap, Mirror, None}
use Rattle.edges.specs.Edges.{value_at, place, sample}
use Rattle.edges.specs.Whole.{place_of}
use Rattle.binary32.specs.Ranges.{finite, outside_unit, any_outside}
use Rattle.binary32.specs.Round.{round_half_up, to_byte, whole_offset}
use Rattle.binary32.specs.declared.Offset.{Offset}
use Rattle.binary32.specs.Taps.{tap, taps}
use Rattle.passes.specs.Passes.{halve, double, convolve}
use Rattle.passes.specs.Blur.{blur}
use Rattle.gaussian_blur.specs.Blurred.{blurred}
use Rattle.gaussian_blur.specs.Outcome.{blurred_or_kept, blur_outcome}
use Rattle.shift.specs.Shift.{moved, shifted, shifted_picture}
use Rattle.shift.specs.Outcome.{wrong_offsets}
use Rattle.shift.specs.Outcome as shift
use Rattle.composite.specs.Channels.{norm, norm_byte, over}

-- a line given by its values
abbrev row : List ℕ → Line
row values i = get_or values i 0

-- the pixels 0, 0, 0, a for each alpha
abbrev alphas : List ℕ → List ℕ
alphas [] = []
alphas (a ∷ more) = 0 ∷ 0 ∷ 0 ∷ a ∷ alphas more

-- an entry's number, then the picture's bytes
abbrev told : Answer Lent → List ℕ
told a = a.number ∷ a.left.picture

-- one more than the index at which the edge rule puts an integer in a line of 3, and 0 outside
abbrev edge3 : EdgeMode → ℤ → ℕ
edge3 mode z = value_at (place_of mode 3 z) (λ i. i + 1)

-- 1, 1/2 and 1/4
abbrev one : Float
one = fin false 1 (pos 0)

abbrev half : Float
half = fin false 1 (negsuc 0)

abbrev quarter : Float
quarter = fin false 1 (negsuc 1)

-- the entry's answer on a picture of these alphas, at strength 1 and with a scratch that is just long enough
abbrev blurs : List ℕ → ℕ → ℕ → List Float → ℕ → ℕ → List ℕ
blurs as₀ w h weights n edge = told (blur_outcome (alphas as₀) w h (alphas as₀) weights n one edge)

-- a row of these alphas, moved by dx
abbrev shifts : List ℕ → ℕ → Float → List ℕ
shifts row w dx = let a = shift.shift_outcome (alphas row) w 1 dx (fin false 0 (pos 0)) in a.number ∷ a.left

-- a whole offset: forward, and backward
abbrev steps : Offset → List ℕ
steps o = o.plus ∷ o.minus ∷ []

pub record Case : Type 0 where
  pub given : List ℕ
  pub says : List ℕ

infixl 20 ◌gives◌
abbrev ◌gives◌ : List ℕ → List ℕ → Case
a gives b = record { given = a; says = b }

abbrev pub table : List Case
table =
    -- A: for s = 3, Mirror of 5 is 0 and of -4 is 2; Wrap of -4 is 2; each read one higher, since outside reads as 0
    ((edge3 Mirror (pos 5) ∷ edge3 Mirror (negsuc 3) ∷ edge3 Wrap (negsuc 3) ∷ []) gives (1 ∷ 3 ∷ 3 ∷ []))
    -- B: halve 0, 0, 0, 255, which stand at 1 to 4 and make output 1; and four times 255
    ∷ ((halve Duplicate 5 (row (0 ∷ 0 ∷ 0 ∷ 0 ∷ 255 ∷ [])) 1 ∷ []) gives (32 ∷ []))
    ∷ ((halve Duplicate 5 (row (0 ∷ 255 ∷ 255 ∷ 255 ∷ 255 ∷ [])) 1 ∷ []) gives (255 ∷ []))
    -- C: row 80, 0, 0, 0 halved
    ∷ (build 2 (halve Duplicate 4 (row (80 ∷ 0 ∷ 0 ∷ 0 ∷ []))) gives (40 ∷ 0 ∷ []))
    ∷ (build 2 (halve None 4 (row (80 ∷ 0 ∷ 0 ∷ 0 ∷ []))) gives (30 ∷ 0 ∷ []))
    ∷ (build 2 (halve Wrap 4 (row (80 ∷ 0 ∷ 0 ∷ 0 ∷ []))) gives (30 ∷ 10 ∷ []))
    -- D: 40, 0 doubled under Duplicate
    ∷ (build 4 (double Duplicate 2 (row (40 ∷ 0 ∷ []))) gives (40 ∷ 30 ∷ 10 ∷ 0 ∷ []))
    -- E: 4 by 1 alphas 80, 0, 0, 0, weight 1, n = 1, strength 1, Duplicate
    ∷ (blurs (80 ∷ 0 ∷ 0 ∷ 0 ∷ []) 4 1 (one ∷ []) 1 0 gives (0 ∷ alphas (40 ∷ 30 ∷ 10 ∷ 0 ∷ [])))
    -- F: 1 by 1 alpha 255, weights 1/4, 1/2, 1/4, n = 0, strength 1: None, and Duplicate
    ∷ (blurs (255 ∷ []) 1 1 (quarter ∷ half ∷ quarter ∷ []) 0 3 gives (0 ∷ alphas (64 ∷ [])))
    ∷ (blurs (255 ∷ []) 1 1 (quarter ∷ half ∷ quarter ∷ []) 0 0 gives (0 ∷ alphas (255 ∷ [])))
    -- G: row 1, 2, 3 shifted by 1, and by -4
    ∷ (shifts (1 ∷ 2 ∷ 3 ∷ []) 3 one gives (0 ∷ alphas (0 ∷ 1 ∷ 2 ∷ [])))
    ∷ (shifts (1 ∷ 2 ∷ 3 ∷ []) 3 (fin true 1 (pos 2)) gives (0 ∷ alphas (0 ∷ 0 ∷ 0 ∷ [])))
    -- H: offset 0.5 moves 1, -0.5 moves -1
    ∷ (steps (whole_offset half) gives (1 ∷ 0 ∷ []))
    ∷ (steps (whole_offset (neg half)) gives (0 ∷ 1 ∷ []))
    -- I: r 0, a 128 over r 100, a 255: r and a
    ∷ ((over 0 100 128 ∷ over 128 255 128 ∷ []) gives (50 ∷ 255 ∷ []))
    ∷ []

-- every case gives what rule 11 says
pub marked : map (λ (c : Case). c.given) table ≡ map (λ (c : Case). c.says) table
unfolding place_of place sample halve double convolve blur build chan painted cleared laid blurred blurred_or_kept blur_outcome settled first_of first_else zero_or_above wrong_sides max_side wrong_length too_short wrong_taps max_taps too_deep max_decimations wrong_edge mode_of finite outside_unit any_outside taps tap to_byte round_half_up whole_offset is_nan lt add mul of_int neg moved shifted shifted_picture wrong_offsets shift.shift_outcome norm norm_byte over sub div
marked = refl
