-- What a loop that writes one value after another has left of a list.
use Rattle.std.specs.Prelude.{◌≡◌, List, ℕ, ◌+◌, ◌≤◌, ◌<◌, length, get_or}

-- of the values that start at o, those from a up to b are f a, .., f (b - 1); no other has changed, and none has come or gone
pub record Span {A : Type 0} (none : A) (old new : List A) (o a b : ℕ) (f : ℕ → A) : Type 0 where
  pub size : length new ≡ length old
  pub inside : (k : ℕ) → a ≤ k → k < b → get_or new (o + k) none ≡ f k
  pub below : (j : ℕ) → j < o + a → get_or new j none ≡ get_or old j none
  pub above : (j : ℕ) → o + b ≤ j → get_or new j none ≡ get_or old j none

-- the n values from o on are f 0, .., f (n - 1), and no other has changed
abbrev pub Run : {A : Type 0} → A → List A → List A → ℕ → ℕ → (ℕ → A) → Type 0
Run none old new o n f = Span none old new o 0 n f
