-- Each refusal's number is its discriminant.
use mathlib.Core.Path.{◌≡◌, refl}
use Prim.Native.Nat.{◌+◌}
use denote.Enum.Declared.{tag_of}
use Rattle.picture.specs.Refusal.{number}
use Rattle.picture.specs.declared.checks.Refusal.{Refusal}
use Rattle.picture.specs.declared.checks.Refusal.TheVariants.{WrongSides, WrongLength, TooShort, WrongTaps, WrongWeight, TooDeep, NotFinite, WrongColour, WrongEdge, BrokenPlate, OffGrid, NoPicture, NoRoom, WrongSum, NoPam, Exceeds, ListFull, WrongList, WrongRecipe, WrongBox, TooDeepToShare, Outside}
use Rattle.picture.specs.contracts.checks.Refusal.{the_type}
use Rattle.picture.proofs.checks.Refusal.number.Goals as goal

by_number : (r : Refusal) → tag_of the_type r + 1 ≡ number r
unfolding number
by_number WrongSides = refl
by_number WrongLength = refl
by_number TooShort = refl
by_number WrongTaps = refl
by_number WrongWeight = refl
by_number TooDeep = refl
by_number NotFinite = refl
by_number WrongColour = refl
by_number WrongEdge = refl
by_number BrokenPlate = refl
by_number OffGrid = refl
by_number NoPicture = refl
by_number NoRoom = refl
by_number WrongSum = refl
by_number NoPam = refl
by_number Exceeds = refl
by_number ListFull = refl
by_number WrongList = refl
by_number WrongRecipe = refl
by_number WrongBox = refl
by_number TooDeepToShare = refl
by_number Outside = refl

pub returns : goal.returns
returns c = by_number c.args.self
