-- `compose_src_over` meets its contract: each channel is the definition's.
use Rattle.composite.proofs.compose_src_over.Goals as goal

pub returns : goal.returns
returns c =
    rw (c.src_over_channel.ensures, c.src_over_channel-2.ensures, c.src_over_channel-3.ensures, c.src_over_channel-4.ensures)
