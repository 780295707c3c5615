-- The part that is written is the number's two bytes.
use mathlib.Core.Path.{◌≡◌, ap, ◌∙◌}
use mathlib.Core.List.{List, [], ◌∷◌}
use Prim.Native.Nat.{ℕ, ◌+◌, ◌-◌, ◌/◌, ◌%◌}
use native.Mathlib.Omega.{arith}
use borrow.Rule.Slice.PartMut.{put_mid}
use Rattle.plate_written.specs.Written.{bytes16}
use Rattle.plate_table.proofs.Laid.{laid_part}
use Rattle.plate_table.proofs.fields.put_u16.Goals as goal

pub returns : goal.returns
unfolding bytes16
returns c =
    let a = c.args in
    let high : a.x / 256 % 256 ≡ a.x / 256 = omega arith in
    let written = c.copy_from_slice.ensures.after ∙ c.to_le_bytes.ensures ∙ ap (λ (b : ℕ). a.x % 256 ∷ b ∷ []) high in
    ap (λ (part : List ℕ). put_mid a.at (a.at + 2 - a.at) a.bytes.now part) written ∙ laid_part a.at (bytes16 a.x) a.bytes.now
