-- Two calls without the original whose pictures agree in alpha.
use Rattle.std.specs.Prelude.{◌≡◌, Bool, false, List, ℕ, ◌<◌, Float, length}
use Rattle.picture.specs.Planes.{chan}
use Rattle.picture.specs.Answer.{Answer, LentCopy}
use Rattle.drop_shadow.specs.Outcome.{shadow_outcome}
use Rattle.drop_shadow.specs.declared.Recipe.{Recipe}

-- what a call is given beside its buffers
pub record Terms : Type 0 where
  pub w : ℕ
  pub h : ℕ
  pub weights : List Float
  pub n : ℕ
  pub edge : ℕ
  pub recipe : Recipe
  pub composite : Bool

-- the contract's right side
abbrev pub outcome_of : LentCopy → Terms → Answer LentCopy
outcome_of b t = shadow_outcome b.picture t.w t.h b.scratch b.copy t.weights t.n t.edge t.recipe t.composite

-- the same terms, without the original; buffers of the same lengths; and the same alpha at each pixel
pub record AlphaAlike (a b : LentCopy) (t u : Terms) : Type 0 where
  pub terms : t ≡ u
  pub alone : t.composite ≡ false
  pub picture : length a.picture ≡ length b.picture
  pub scratch : length a.scratch ≡ length b.scratch
  pub copy : length a.copy ≡ length b.copy
  pub alpha : (x y : ℕ) → x < t.w → y < t.h → chan a.picture t.w 3 x y ≡ chan b.picture t.w 3 x y
