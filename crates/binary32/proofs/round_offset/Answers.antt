-- `round_offset` meets its contract: the size is rounded, and the sign says which way it counts.
use Rattle.std.proofs.Common.{true, false, ap, ◌∙◌}
use lib.Ieee.{of_bits}
use Rattle.binary32.specs.Round.{signed_steps}
use Rattle.binary32.proofs.Offsets.{forward, backward}
use Rattle.binary32.proofs.round_offset.Goals as goal

pub held_size-requires : goal.held_size-requires
unfolding of_bits
held_size-requires c = record { fact_1 = (backward c.args.bound c.args.x c.if-x.true).0; fact_2 = c.requires }

pub returns-then-x : goal.returns-then-x
unfolding of_bits
returns-then-x c =
    ap (signed_steps true) c.held_size.ensures ∙ (backward c.args.bound c.args.x c.if-x.true).1

pub held_size-requires-else-x : goal.held_size-requires-else-x
unfolding of_bits
held_size-requires-else-x c = record { fact_1 = c.if-x.false; fact_2 = c.requires }

pub returns-else-x : goal.returns-else-x
unfolding of_bits
returns-else-x c =
    ap (signed_steps false) c.held_size-else-x.ensures ∙ forward c.args.bound c.args.x c.if-x.false
