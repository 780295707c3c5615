-- The edge rules on integers: rules 4.1 to 4.4.
use Rattle.std.specs.Prelude.{ℕ, ◌+◌, ◌-◌, ◌*◌, ◌%◌, cond, ℤ, pos, negsuc, nat_lt, Option, Some}
use Rattle.picture.specs.declared.EdgeMode.{EdgeMode}
use Rattle.picture.specs.declared.EdgeMode.TheVariants.{Duplicate, Wrap, Mirror, None}
use Rattle.edges.specs.Edges.{reflected}

-- z if inside, else `other`
abbrev pub inside_else : Option ℕ → ℕ → ℤ → Option ℕ
inside_else other s (pos n) = cond (nat_lt n s) (Some n) other
inside_else other s (negsuc n) = other

-- the nearer of 0 and s - 1, of a coordinate outside
abbrev pub nearer : ℕ → ℤ → ℕ
nearer s (pos n) = s - 1
nearer s (negsuc n) = 0

-- z modulo n, 0 to n - 1
abbrev pub modulo_of : ℕ → ℤ → ℕ
modulo_of n (pos k) = k % n
modulo_of n (negsuc k) = n - 1 - k % n

-- the element of a line of s elements that the coordinate z reads
unfoldable pub place_of : EdgeMode → ℕ → ℤ → Option ℕ
place_of Duplicate s z = inside_else (Some (nearer s z)) s z
place_of Wrap s z = Some (modulo_of s z)
place_of Mirror s z = reflected s (modulo_of (2 * s) z)
place_of None s z = inside_else Option.None s z

-- an integer as a pair
abbrev pub plus : ℤ → ℕ
plus (pos n) = n
plus (negsuc n) = 0

abbrev pub minus : ℤ → ℕ
minus (pos n) = 0
minus (negsuc n) = n + 1
