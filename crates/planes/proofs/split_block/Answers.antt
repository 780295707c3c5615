-- Each plane has 64 bytes more, of the pixels that were taken apart.
use Rattle.planes.proofs.Blocks.{block_split}
use Rattle.planes.proofs.split_block.Goals as goal

pub returns : goal.returns
returns c =
    let a = c.args in
    block_split a.n a.m a.src.now c.requires.fact_3 _ c.take_apart.ensures _ _ _ _ _ c.requires.fact_4 c.copy_run.ensures c.copy_run-2.ensures c.copy_run-3.ensures c.copy_run-4.ensures
