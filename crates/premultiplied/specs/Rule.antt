-- Premultiplied pictures, and that they are what the check says (request 09).
use Rattle.std.specs.Prelude.{◌≡◌, false, Option, None, Result, Ok, List, ◌↔◌, ℕ, ◌*◌, ◌≤◌, ◌<◌, length}
use contract.Lifetimes.{Lfts}
use borrow.Fn.Kinds.{Dens, ended_of}
use denote.Triple.Clauses.{AtExit}
use Rattle.picture.specs.Planes.{chan}
use Rattle.picture.specs.Answer.{answered}
use Rattle.picture.specs.Refusal.{first_of, picture_checks}
use Rattle.picture.specs.declared.checks.Refusal.{Refusal}
use Rattle.pixels.specs.Channels.{exceeds_at}
use Rattle.grading.specs.Premultiplied.{none, checked}
use Rattle.grading.specs.declared.premultiplied.Place.{Place}
use Rattle.grading.proofs.premultiplied.check.Reads as check
use Rattle.grading.proofs.premultiplied.check.Kinds as kinds

-- no channel of any pixel exceeds its alpha: of the pixel at each place, as the check asks it
abbrev pub Premultiplied : ℕ → ℕ → List ℕ → Type 0
Premultiplied w h p = (k : ℕ) → k < w * h → exceeds_at p k ≡ false

-- in channels: r, g and b of each pixel are at most its alpha
abbrev pub UnderAlpha : ℕ → ℕ → List ℕ → Type 0
UnderAlpha w h p = (c x y : ℕ) → c < 3 → x < w → y < h → chan p w c x y ≤ chan p w 3 x y

abbrev pub InChannels : Type 0
InChannels = (p : List ℕ) (w h : ℕ) → Premultiplied w h p ↔ UnderAlpha w h p

-- the check finds nothing exactly where checks 1 and 2 let the picture through and it is premultiplied
abbrev pub AsChecked : Type 0
AsChecked = (p : List ℕ) (w h : ℕ) → (checked p w h ≡ answered 0 none) ↔ ((first_of (picture_checks (length p) w h) ≡ 0) × Premultiplied w h p)

-- and there the entry `check` answers that the picture fits
abbrev pub AsAnswered : Type 0
AsAnswered =
    (κs : Lfts 1) (a : Dens κs kinds.ps) (r : Result (Option Place) Refusal) (left : AtExit (ended_of 1 kinds.ps kinds.r) κs) → check.Post κs a r left →
    let p = a.0.now in
    let w = a.1.0 in
    let h = a.1.1.0 in
    (r ≡ Ok None) ↔ ((first_of (picture_checks (length p) w h) ≡ 0) × Premultiplied w h p)
