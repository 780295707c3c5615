-- Straight channels in the testers' files, premultiplied ones in a picture.
use Rattle.std.specs.Prelude.{Bool, true, false, cond, List, ℕ, ◌+◌, ◌*◌, ◌/◌, ◌%◌, eqb, get_or}
use Rattle.picture.specs.Planes.{chan, painted}
use Rattle.picture.specs.declared.Pixel.{Pixel}
use Rattle.pixels.specs.Pixels.{packed}
use Rattle.pixels.specs.Channels.{premultiply}
use Rattle.counting.specs.Words.{unpacked}
use Rattle.unmultiply.specs.Outward.{outward}

-- a pixel whose r, g and b are each made anew by a rule of it and its alpha; the alpha stays
abbrev pub recoloured_pixel : (ℕ → ℕ → ℕ) → Pixel → Pixel
recoloured_pixel f p = record { r = f p.r p.a; g = f p.g p.a; b = f p.b p.a; a = p.a }

-- channel c of such a pixel
abbrev pub recoloured_channel : (ℕ → ℕ → ℕ) → ℕ → ℕ → ℕ → ℕ
recoloured_channel f c channel alpha = cond (eqb c 3) alpha (f channel alpha)

-- a picture all of whose pixels are
unfoldable pub recoloured : (ℕ → ℕ → ℕ) → ℕ → ℕ → List ℕ → List ℕ
recoloured f w h bytes = painted w h (λ c x y. recoloured_channel f c (chan bytes w c x y) (chan bytes w 3 x y))

-- inward, c becomes floor((c·a + 127) / 255), which is `premultiply`
abbrev pub imported : ℕ → ℕ → List ℕ → List ℕ
imported w h body = recoloured premultiply w h body

-- outward, what `outward` says
abbrev pub exported : ℕ → ℕ → List ℕ → List ℕ
exported w h picture = recoloured outward w h picture

-- byte j of a picture whose channels are made anew, of the bytes alone
abbrev pub anew_at : (ℕ → ℕ → ℕ) → List ℕ → ℕ → ℕ
anew_at f bytes j = recoloured_channel f (j % 4) (get_or bytes (4 * (j / 4) + j % 4) 0) (get_or bytes (4 * (j / 4) + 3) 0)

-- what byte j is multiplied by inward: its pixel's alpha, and 255 where it is the alpha
abbrev pub factor_at : List ℕ → ℕ → ℕ
factor_at bytes j = cond (eqb (j % 4) 3) 255 (get_or bytes (4 * (j / 4) + 3) 0)

-- what a block makes of a pixel: outward its channels divided, inward what they are multiplied by
abbrev pub new_pixel : Bool → Pixel → Pixel
new_pixel true p = recoloured_pixel outward p
new_pixel false p = record { r = p.a; g = p.a; b = p.a; a = 255 }

-- of the pixel in a word
unfoldable pub new_word : Bool → ℕ → ℕ
new_word out n = packed (new_pixel out (unpacked n))

-- byte j of the block
abbrev pub new_at : Bool → List ℕ → ℕ → ℕ
new_at true bytes j = anew_at outward bytes j
new_at false bytes j = factor_at bytes j

-- the rule outward, or inward
abbrev pub rule : Bool → ℕ → ℕ → ℕ
rule true = outward
rule false = premultiply
