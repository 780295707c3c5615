-- What reading a file comes to in each case of its checks.
use mathlib.Core.Path.{◌≡◌}
use mathlib.Core.Bool.{true, false}
use mathlib.Core.List.{List, ◌++◌}
use Prim.Native.Nat.{ℕ}
use lib.ListN.{length, drop}
use Rattle.std.proofs.Common.{Ok, Err}
use Rattle.picture.specs.Answer.{settled}
use Rattle.picture.specs.Planes.{laid}
use Rattle.picture.specs.Refusal.{number, first_else, first_of, too_short}
use Rattle.picture.specs.declared.checks.Refusal.TheVariants.{NoPam, TooShort}
use Rattle.picture.specs.Sizes.{full_size}
use Rattle.pam_format.specs.Format.{width_in, height_in, is_pam}
use Rattle.pam_convert.specs.Straight.{imported}
use Rattle.pam.specs.Import.{pixels_in, import_outcome, import_answer}

-- a part in front that is written whole
pub laid_front : (n : ℕ) (part new old : List ℕ) → part ≡ new → n ≡ length new → part ++ drop n old ≡ laid new old
unfolding laid
laid_front n part new old e l = rw (e, l)

module _ (file picture : List ℕ) where
  -- 15: no PAM file
  pub no_pam : is_pam file ≡ false → import_answer (Err NoPam) picture ≡ import_outcome file picture
  unfolding number import_outcome settled first_of first_else
  no_pam p = rw p

  module _ (pam : is_pam file ≡ true) where
    -- 3: too little room
    pub no_room : too_short (length picture) (width_in file) (height_in file) ≡ true → import_answer (Err TooShort) picture ≡ import_outcome file picture
    unfolding number import_outcome settled first_of first_else
    no_room t = rw (pam, t)

    pub read_in_lem : too_short (length picture) (width_in file) (height_in file) ≡ false → (new : List ℕ) →
        new ≡ laid (imported (width_in file) (height_in file) (pixels_in file (width_in file) (height_in file))) picture →
        import_answer (Ok (full_size (width_in file) (height_in file))) new ≡ import_outcome file picture
    unfolding number import_outcome settled first_of first_else
    read_in_lem t new e = rw (pam, t, e)
