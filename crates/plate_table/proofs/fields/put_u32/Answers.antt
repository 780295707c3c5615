-- The part that is written is the number's four bytes.
use mathlib.Core.Path.{◌≡◌, ap, ◌∙◌}
use mathlib.Core.List.{List, [], ◌∷◌}
use Prim.Native.Nat.{ℕ, ◌+◌, ◌-◌, ◌/◌, ◌%◌, ◌<◌}
use native.Mathlib.Omega.{arith}
use borrow.Rule.Slice.PartMut.{put_mid}
use Rattle.plate_written.specs.Written.{bytes16, bytes32}
use Rattle.plate_table.proofs.Laid.{laid_part}
use Rattle.plate_table.proofs.fields.put_u32.Goals as goal

-- its bytes, one by one
bytes_of : (x : ℕ) → x < 4294967296 → (x % 256 ∷ x / 256 % 256 ∷ x / 65536 % 256 ∷ x / 16777216 % 256 ∷ []) ≡ bytes32 x
unfolding bytes16 bytes32
bytes_of x l =
    let first : x % 65536 % 256 ≡ x % 256 = omega arith in
    let second : x % 65536 / 256 ≡ x / 256 % 256 = omega arith in
    let third : x / 65536 / 256 ≡ x / 16777216 % 256 = omega arith in
    rw (first, second, third)

pub returns : goal.returns
unfolding bytes16 bytes32
returns c =
    let a = c.args in
    let written = c.copy_from_slice.ensures.after ∙ c.to_le_bytes.ensures ∙ bytes_of a.x (omega arith) in
    ap (λ (part : List ℕ). put_mid a.at (a.at + 4 - a.at) a.bytes.now part) written ∙ laid_part a.at (bytes32 a.x) a.bytes.now
