-- Halving and doubling by cases: the pass, how many elements it makes, and which of them have all samples inside.
use Rattle.std.specs.Prelude.{◌≡◌, ℕ, ◌+◌, ◌-◌, ◌*◌, ◌/◌}
use Rattle.picture.specs.Sizes.{half}
use Rattle.picture.specs.declared.EdgeMode.{EdgeMode}
use Rattle.passes.specs.Passes.{Pass, halve, double}
use Rattle.resize.specs.declared.Resize.{Resize}
use Rattle.resize.specs.declared.Resize.TheVariants.{Halve, Double}

-- the pass of a kind
abbrev pub pass_of : Resize → EdgeMode → Pass
pass_of Halve mode = halve mode
pass_of Double mode = double mode

-- len elements become out of them: halving makes half as many, upward; doubling stops at the finer size, of which len is the half
abbrev pub Makes : Resize → ℕ → ℕ → Type 0
Makes Halve len out = out ≡ half len
Makes Double len out = len ≡ half out

-- the end of the outputs of a line of len elements, from the second on, whose samples all lie inside
abbrev pub inner_to : Resize → ℕ → ℕ
inner_to Halve len = 1 + (len - 3) / 2
inner_to Double len = 2 * len - 1
