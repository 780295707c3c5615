-- Converting, working and converting back gives the same bytes and refusals as the interleaved form, and converting there and back changes nothing
-- (request 13): once over the operation, of all calls that the contracts allow.
use Rattle.std.specs.Prelude.{◌≡◌, ◌≤◌, length, take}
use Rattle.picture.specs.Planes.{laid}
use Rattle.picture.specs.Sizes.{full_bytes}
use Rattle.plane_laws.specs.Calls.{Conversion, EachTo, EachFrom, Operation, Work, OnPlanes, OnPicture}

-- ---- there and back
-- the second of two conversions has room, and reads what the first wrote
pub record Follows (one other : Conversion) : Type 0 where
  pub first_done : one.number ≡ 0
  pub size_is : other.size ≡ one.size
  pub reads : other.src ≡ take (full_bytes one.size) one.made
  pub room_enough : full_bytes one.size ≤ length other.room

-- it is done, and writes what the first was given; the rest of its room stays
pub record Returns (one other : Conversion) : Type 0 where
  pub done : other.number ≡ 0
  pub made_is : other.made ≡ laid one.src other.room

pub record ThereAndBack : Type 0 where
  pub picture : EachTo (λ one. EachFrom (λ other. Follows one other → Returns one other))
  pub planes : EachFrom (λ one. EachTo (λ other. Follows one other → Returns one other))

-- ---- the same operation in both forms
module _ {o : Operation} where
  -- the same size, numbers and work buffers
  pub record Alike (worked alone : Work o) : Type 0 where
    pub size_is : worked.size ≡ alone.size
    pub given_is : worked.given ≡ alone.given
    pub scratch_is : worked.before.scratch ≡ alone.before.scratch
    pub copy_is : worked.before.copy ≡ alone.before.copy

  -- the picture is converted, its planes are worked on, and what they become is converted back; beside it, the operation alone on the picture
  pub record Around (there : Conversion) (worked : Work o) (back : Conversion) (alone : Work o) : Type 0 where
    pub alike : Alike worked alone
    pub there_size : there.size ≡ alone.size
    pub there_reads : there.src ≡ alone.before.picture
    pub there_done : there.number ≡ 0
    pub planes_are : worked.before.picture ≡ take (full_bytes alone.size) there.made
    pub back_size : back.size ≡ alone.size
    pub back_reads : back.src ≡ worked.after.picture
    pub room_enough : full_bytes alone.size ≤ length back.room

  -- the same number, whatever it is, the same work buffers, and the same picture
  pub record SameAsAlone (worked : Work o) (back : Conversion) (alone : Work o) : Type 0 where
    pub number_is : worked.number ≡ alone.number
    pub scratch_is : worked.after.scratch ≡ alone.after.scratch
    pub copy_is : worked.after.copy ≡ alone.after.copy
    pub back_done : back.number ≡ 0
    pub picture_is : back.made ≡ laid alone.after.picture back.room

  -- the picture cannot be converted, though there is room
  pub record Unconverted (there : Conversion) (alone : Work o) : Type 0 where
    pub there_size : there.size ≡ alone.size
    pub there_reads : there.src ≡ alone.before.picture
    pub there_refused : there.number ≡ 0 → ⊥
    pub room_enough : full_bytes there.size ≤ length there.room

  -- the operation refuses it with the same number, and leaves every byte
  pub record RefusedAlike (there : Conversion) (alone : Work o) : Type 0 where
    pub number_is : alone.number ≡ there.number
    pub left_is : alone.after ≡ alone.before

pub record SameOnPlanes (o : Operation) : Type 0 where
  pub bytes : EachTo (λ there. OnPlanes o (λ worked. EachFrom (λ back. OnPicture o (λ alone. Around there worked back alone → SameAsAlone worked back alone))))
  pub not_converted : EachTo (λ there. OnPicture o (λ alone. Unconverted there alone → RefusedAlike there alone))
  -- bytes of the same length, right or wrong, are refused alike in both forms
  pub refusals : OnPlanes o (λ worked. OnPicture o (λ alone. Alike worked alone → length worked.before.picture ≡ length alone.before.picture → worked.number ≡ alone.number))
