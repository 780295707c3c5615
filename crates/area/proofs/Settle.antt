-- What a call that is lent a table alone comes to where each of its checks lets it through.
use Rattle.std.proofs.Common.{◌≡◌, ℕ, Bool, false, [], ◌∷◌, ◌++◌}
use Rattle.picture.specs.Answer.{Answer, answered, settled}
use Rattle.picture.specs.Refusal.{check, first_else, first_of, wrong_sides}
use Rattle.area.specs.Outcome.{short_table, table_checks}

module _ {A : Type 0} (entries w h : ℕ) (wrong : Bool) (before after : A) where
  abbrev pub table_call : Answer A
  table_call = settled (first_of (table_checks entries w h ++ check 20 wrong ∷ [])) before after

  pub at_end : wrong_sides w h ≡ false → short_table entries w h ≡ false → wrong ≡ false → answered 0 after ≡ table_call
  unfolding settled first_of first_else
  at_end s t p = rw (s, t, p)
