-- Laws of a list that is moved as one line.
use mathlib.Core.Path.{◌≡◌}
use mathlib.Core.List.{List}
use Prim.Native.Nat.{ℕ, ◌+◌}
use lib.ListN.{length}
use Rattle.binary32.specs.declared.Offset.{Offset}
use Rattle.picture.specs.Buffers.{line_of}
use Rattle.shift.specs.Bytes.{slid}
use Rattle.shift.proofs.Moved.{moved_same}
use Rattle.picture.proofs.Build.{build_same}
use Rattle.shift.proofs.Zeroed.{}

-- only the difference of an offset's two numbers matters
pub slid_same : (d e : Offset) (bytes : List ℕ) → d.plus + e.minus ≡ e.plus + d.minus → slid d bytes ≡ slid e bytes
unfolding slid
slid_same d e bytes h = build_same (length bytes) _ _ (λ i _. moved_same d e (length bytes) (line_of bytes) i h)
