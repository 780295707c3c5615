-- `tint_of` meets its contract: each channel is the definition's.
use Rattle.composite.proofs.Units.{component_asks}
use Rattle.composite.proofs.tint_of.Goals as goal

pub norm_to_u8-requires : goal.norm_to_u8-requires
norm_to_u8-requires c = component_asks c.args.colour.red c.requires.red

pub norm_to_u8-requires-2 : goal.norm_to_u8-requires-2
norm_to_u8-requires-2 c = component_asks c.args.colour.green c.requires.green

pub norm_to_u8-requires-3 : goal.norm_to_u8-requires-3
norm_to_u8-requires-3 c = component_asks c.args.colour.blue c.requires.blue

pub returns : goal.returns
returns c = rw (c.norm_to_u8.ensures, c.norm_to_u8-2.ensures, c.norm_to_u8-3.ensures)
