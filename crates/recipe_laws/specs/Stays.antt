-- If no channel of any pixel exceeds its alpha before a list of recipes, none does after it, whatever it answers (request 09's rule for request 10).
use Rattle.std.specs.Prelude.{◌≡◌, List, ℕ, ◌≤◌, ◌<◌, Float}
use Rattle.picture.specs.Planes.{chan}
use Rattle.exact_blur.specs.Demand.{LentBytes}
use Rattle.premultiplied.specs.Rule.{UnderAlpha}
use Rattle.premultiplied.specs.Stays.{KeepsPremultiplied}
use Rattle.recipe_checks.specs.declared.Step.{Step}
use Rattle.recipes.specs.Chain.{first_bad, chained}
use Rattle.recipe_laws.specs.Calls.{OfCalls}

-- of a call that was lent the picture `before`, of w by h pixels, and left it as `after`: where r, g and b of each pixel were at most its alpha, they are
abbrev pub LeavesNone : ℕ → ℕ → List ℕ → List ℕ → Type 0
LeavesNone w h before after =
    LentBytes before → UnderAlpha w h before → (c x y : ℕ) → c < 3 → x < w → y < h → chan after w c x y ≤ chan after w 3 x y

pub record ListStays : Type 0 where
  -- what good recipes make of a picture, one after the other
  pub made : (table : List Float) (w h i : ℕ) (steps : List Step) → (first_bad table i steps).number ≡ 0 → KeepsPremultiplied w h (chained table w h steps)
  -- a call, whatever it answers: a refused list leaves the picture as it was
  pub left : OfCalls (λ k. LeavesNone k.w k.h k.before.picture k.after.picture)
