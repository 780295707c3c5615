-- The blur of a body, as the job does it.
use Rattle.std.specs.Prelude.{false, List, [], ◌∷◌, ℕ, negsuc, Float}
use Rattle.std.specs.Float.{fin}
use Rattle.picture.specs.declared.EdgeMode.TheVariants.{Duplicate}
use Rattle.binary32.specs.Ranges.{one32}
use Rattle.gaussian_blur.specs.Outcome.{blurred_or_kept}

-- the blur of a body: its width, its height, its bytes, and the bytes it becomes
abbrev pub BodyBlur : Type 0
BodyBlur = ℕ → ℕ → List ℕ → List ℕ

-- the weights of the job's blur: 1/4, 1/2, 1/4
abbrev pub plate_weights : List Float
plate_weights = fin false 1 (negsuc 1) ∷ fin false 1 (negsuc 0) ∷ fin false 1 (negsuc 1) ∷ []

-- the blur of the job: those weights, n = 1, Duplicate, strength 1
unfoldable pub plate_blur : BodyBlur
plate_blur w h body = blurred_or_kept Duplicate plate_weights 1 one32 w h body
