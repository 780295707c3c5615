-- What a call of an entry answers and leaves behind: its number, and the lent bytes of whatever buffers it has.
use Rattle.std.specs.Prelude.{cond, List, ℕ, eqb}

pub record Answer (A : Type 0) : Type 0 where
  pub number : ℕ
  pub left : A

abbrev pub answered : {A : Type 0} → ℕ → A → Answer A
answered r left = record { number = r; left = left }

-- the lent buffers of an entry with one work buffer: what it works on, a picture or a plate file, and its scratch
pub record Lent : Type 0 where
  pub picture : List ℕ
  pub scratch : List ℕ

abbrev pub lent : List ℕ → List ℕ → Lent
lent p s = record { picture = p; scratch = s }

-- refused with its number, and everything as it was before; or done, with number 0
unfoldable pub settled : {A : Type 0} → ℕ → A → A → Answer A
settled refusal before after = cond (eqb refusal 0) (answered 0 after) (answered refusal before)

-- the lent buffers of an entry with two work buffers: the picture, its scratch and its copy
pub record LentCopy : Type 0 where
  pub picture : List ℕ
  pub scratch : List ℕ
  pub copy : List ℕ

abbrev pub lent_copy : List ℕ → List ℕ → List ℕ → LentCopy
lent_copy p s c = record { picture = p; scratch = s; copy = c }
