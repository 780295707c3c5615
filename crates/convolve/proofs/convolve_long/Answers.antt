-- The buffer has room for as many elements as a block has.
use Rattle.convolve.proofs.Room.{long_room}
use Rattle.convolve.proofs.convolve_long.Goals as goal

pub each_line-requires : goal.each_line-requires
each_line-requires c = record { fact_1 = c.requires; fact_2 = long_room c.requires.lined.stride_low c.min-most.ensures }
