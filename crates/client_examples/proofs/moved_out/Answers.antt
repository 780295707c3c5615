-- The shift's own promise, worked out at this call: under the names below, each side computes.
use mathlib.Core.Path.{ap}
use mathlib.Core.List.{List}
use Prim.Native.Nat.{ℕ}
use lib.Ieee.{of_bits, neg}
use Rattle.picture.specs.Answer.{Answer, settled}
use Rattle.picture.specs.Build.{build}
use Rattle.picture.specs.Planes.{chan, painted}
use Rattle.picture.specs.Refusal.{first_else, first_of, zero_or_above, wrong_sides, wrong_length}
use Rattle.picture.specs.Sizes.{max_side}
use Rattle.edges.specs.Edges.{place, sample}
use Rattle.binary32.specs.Ranges.{finite}
use Rattle.binary32.specs.Round.{round_half_up, whole_offset}
use Rattle.shift.specs.Shift.{moved, shifted, shifted_picture}
use Rattle.shift.specs.Outcome.{wrong_offsets, shift_outcome}
use Rattle.client_examples.proofs.moved_out.Goals as goal

pub returns : goal.returns
unfolding shift_outcome settled first_of first_else zero_or_above wrong_sides max_side wrong_length wrong_offsets finite shifted_picture whole_offset round_half_up shifted moved painted chan build sample place of_bits neg
returns c = ap (λ (a : Answer (List ℕ)). a.left) c.shift.ensures
