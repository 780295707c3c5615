-- Four values, or what stands at four places of a line, blended.
use Rattle.std.specs.Prelude.{ℕ, ◌+◌, ◌*◌, ◌/◌, Option}
use Rattle.picture.specs.Planes.{Line}
use Rattle.edges.specs.Edges.{value_at}
use Rattle.blend.specs.declared.Weights.{Weights}

-- four values in their weights, over 8, rounded
abbrev pub weighed : Weights → ℕ → ℕ → ℕ → ℕ → ℕ
weighed w a b c d = (w.a * a + w.b * b + w.c * c + w.d * d + 4) / 8

-- halving's rule on four samples: weights 1, 3, 3, 1 over 8, rounded
abbrev pub mix : ℕ → ℕ → ℕ → ℕ → ℕ
mix a b c d = (a + 3 * b + 3 * c + d + 4) / 8

-- the same of four places of a line
abbrev pub mix_at : Option ℕ → Option ℕ → Option ℕ → Option ℕ → Line → ℕ
mix_at a b c d line = mix (value_at a line) (value_at b line) (value_at c line) (value_at d line)
