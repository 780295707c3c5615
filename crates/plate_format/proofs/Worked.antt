-- The worked file of rule 10.8 is a plate, and a plate of no pictures is exactly 4 bytes (rule 10.4).
use mathlib.Core.Path.{◌≡◌, refl, ◌∙◌}
use mathlib.Core.Bool.{true}
use mathlib.Core.List.{List, [], ◌∷◌}
use Prim.Native.Nat.{ℕ}
use native.Mathlib.Nat.{zero-mul}
use lib.ListN.{length}
use Rattle.picture.specs.Refusal.{zero_or_above, wrong_length}
use Rattle.picture.specs.Sizes.{max_side}
use Rattle.plate_numbers.specs.Numbers.{u16_at, u32_at, count, known_to, newest, labelled, wrong_unit, entry_size, larger, largest_side, largest_whole}
use Rattle.plate_format.specs.Format.{max_count, label_at, entry_of, body_offset, wrong_sides_of, obeys, all_below, filled, is_plate_to, is_plate}
use Rattle.plate_format.proofs.Rules.{rules}

pub worked : is_plate (1 ∷ 0 ∷ 1 ∷ 0 ∷ 1 ∷ 0 ∷ 1 ∷ 0 ∷ 16 ∷ 0 ∷ 0 ∷ 0 ∷ 4 ∷ 0 ∷ 0 ∷ 0 ∷ 10 ∷ 20 ∷ 30 ∷ 255 ∷ []) ≡ true
unfolding is_plate_to filled all_below obeys wrong_unit labelled label_at newest wrong_sides_of body_offset entry_of largest_whole largest_side larger entry_size max_count known_to u32_at u16_at zero_or_above wrong_length max_side
worked = refl

pub no_pictures : (file : List ℕ) → is_plate file ≡ true → count file ≡ 0 → length file ≡ 4
unfolding body_offset
no_pictures file plate none = (rules file plate).bodies.exact ∙ rw (none, none, zero-mul)
