-- The first n words are as many as are left.
use mathlib.Core.Path.{◌≡◌, sym, ap, ◌∙◌}
use Prim.Native.Nat.{◌+◌}
use native.Mathlib.Omega.{arith}
use lib.ListN.{length, take}
use lib.Seq.{length-take-le}
use Rattle.pixels.specs.Channels.{exceeds_at}
use Rattle.counting.specs.Counts.{how_many}
use Rattle.counting.proofs.counter.count_rest.Goals as goal
use Rattle.counting.proofs.counter.count_rest.Goals.{Start}

-- as many words
size : (c : Start) → length (take c.args.n c.args.words.now) ≡ c.args.n
size c = length-take-le c.args.n c.args.words.now (omega arith)

pub slice_bounds-count_block-end-2 : goal.slice_bounds-count_block-end-2
slice_bounds-count_block-end-2 c = sym (size c.before.before.before.before)

pub count_block-requires : goal.count_block-requires
count_block-requires c =
    let e = size c.before.before.before.before in
    record { fact_1 = rw e (omega arith); fact_2 = rw e (omega arith) }

pub returns : goal.returns
returns c =
    let s = c.before.before.before.before.before.before.before in
    c.count_block.ensures ∙ ap (how_many (λ k. exceeds_at c.args.picture.now (c.args.from + k))) (size s)
