-- What a call answers, and what a vector says that it does.
use Rattle.std.specs.Prelude.{Bool, ◌&&◌, List, ℕ, eqb, get_or, Option}
use Rattle.std.specs.Option.{option_map_or}
use Rattle.vector_parts.specs.declared.parts.Part.{Part}
use Rattle.vector_parts.specs.declared.replies.Reply.{Reply}
use Rattle.vector_parts.specs.Parts.{list_part, other_part}

abbrev pub reply : ℕ → ℕ → ℕ → ℕ → ℕ → Reply
reply number first second third fourth = record { number = number; first = first; second = second; third = third; fourth = fourth }

-- two numbers stand at two places of a vector
unfoldable pub pair_at : List ℕ → ℕ → ℕ → ℕ → ℕ → Bool
pair_at v i a j b = eqb a (get_or v i 0) && eqb b (get_or v j 0)

-- the out-parameters are numbers 25 to 28 of the vector, and the number is number 22
unfoldable pub stored_reply : List ℕ → Reply → Bool
stored_reply v r =
    pair_at v 25 r.first 26 r.second && (pair_at v 27 r.third 28 r.fourth && eqb r.number (get_or v 22 0))

-- how many numbers a list has, none where it is not there
abbrev pub count_of : Option Part → ℕ
count_of p = option_map_or (λ q. q.count) p 0

-- there is no list, and no other buffer
unfoldable pub no_other : List ℕ → Bool
no_other v = eqb (count_of (list_part v)) 0 && eqb (count_of (other_part v)) 0
