-- A list of recipes: all are checked before the first runs, and then they run in order on one picture.
use Rattle.std.specs.Prelude.{cond, List, [], ◌∷◌, ℕ, suc, eqb, Float, length, get_or}
use Rattle.std.specs.Float.{nan}
use Rattle.picture.specs.Planes.{bytes_of, cleared}
use Rattle.picture.specs.Refusal.{first_of}
use Rattle.picture.specs.Answer.{Answer, answered, settled, LentCopy, lent_copy}
use Rattle.recipe_checks.specs.declared.Step.{Step}
use Rattle.recipe_checks.specs.Own.{Chained, own_number, frame_checks, found}
use Rattle.recipe_checks.specs.Single.{single_call, worked}

-- what stands past the end of a list: no operation has this number
abbrev pub no_step : Step
no_step =
    record {
      operation = 3;
      kernel = 0;
      taps = 0;
      n = 0;
      edge = 0;
      composite = 0;
      dx = nan;
      dy = nan;
      strength = nan;
      red = nan;
      green = nan;
      blue = nan;
      alpha = nan;
    }

-- recipe i of the list
unfoldable pub step_at : List Step → ℕ → Step
step_at steps i = get_or steps i no_step

-- the first bad recipe's own number and its index, of recipes counted from i; 0 and 0 where none is bad
unfoldable pub first_bad : List Float → ℕ → List Step → Chained
first_bad table i [] = found 0 0
first_bad table i (step ∷ steps) = cond (eqb (own_number table step) 0) (first_bad table (suc i) steps) (found (own_number table step) i)

-- what is found so far, and the number of recipe i: the first that is not 0 stays
unfoldable pub noted : Chained → ℕ → ℕ → Chained
noted before i number = cond (eqb before.number 0) (cond (eqb number 0) before (found number i)) before

-- what is found after looking at the recipes from i on
unfoldable pub all_noted : List Float → ℕ → List Step → Chained → Chained
all_noted table i [] before = before
all_noted table i (step ∷ steps) before = all_noted table (suc i) steps (noted before i (own_number table step))

-- 1 to 3 with index 0; else the first bad recipe's number and index
unfoldable pub chain_found : ℕ → ℕ → ℕ → ℕ → ℕ → List Step → List Float → Chained
chain_found picture w h scratch copy steps table =
    let frame = first_of (frame_checks picture w h scratch copy) in
    cond (eqb frame 0) (first_bad table 0 steps) (found frame 0)

-- the recipes one after the other, as the calls leave the buffers
unfoldable pub all_ran : List Float → ℕ → ℕ → List Step → LentCopy → LentCopy
all_ran table w h [] l = l
all_ran table w h (step ∷ steps) l = all_ran table w h steps (single_call table w h step l).left

-- the picture that the recipes make, one after the other
unfoldable pub chained : List Float → ℕ → ℕ → List Step → List ℕ → List ℕ
chained table w h [] p = p
chained table w h (step ∷ steps) p = chained table w h steps (worked table w h step p)

-- what a chain leaves: the index beside its number, and the lent buffers
pub record ChainLeft : Type 0 where
  pub index : ℕ
  pub buffers : LentCopy

abbrev pub chain_left : ℕ → LentCopy → ChainLeft
chain_left index buffers = record { index = index; buffers = buffers }

abbrev pub chain_answer : Chained → LentCopy → Answer ChainLeft
chain_answer r buffers = answered r.number (chain_left r.index buffers)

-- the first refusal with its index; or the picture of the chain, and both work buffers zero over 4wh
unfoldable pub chain_outcome : List ℕ → ℕ → ℕ → List ℕ → List ℕ → List Step → List Float → Answer ChainLeft
chain_outcome p w h s c steps table =
    let r = chain_found (length p) w h (length s) (length c) steps table in
    settled r.number (chain_left r.index (lent_copy p s c))
    (chain_left 0 (lent_copy (chained table w h steps p) (cleared (bytes_of w h) s) (cleared (bytes_of w h) c)))
