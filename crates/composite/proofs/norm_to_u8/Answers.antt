-- `norm_to_u8` meets its contract: the product is the definition's, and `round_channel` rounds it.
use lib.Ieee.{of_bits}
use Rattle.composite.specs.Channels.{norm_byte}
use Rattle.composite.proofs.norm_to_u8.Goals as goal

pub round_channel-requires : goal.round_channel-requires
unfolding of_bits
round_channel-requires c = c.requires

pub returns : goal.returns
unfolding of_bits norm_byte
returns c = c.round_channel.ensures
