-- The pair that is passed stands for the coordinate, and no sum wraps on the way.
use Rattle.std.proofs.Common.{ap, ◌∙◌, arith}
use Rattle.edges.specs.Whole.{place_of}
use Rattle.edges.proofs.Whole.{place_is}
use Rattle.edges.proofs.Raised.{depth, raised, raised_high, pair_raised, wide, sum_is, sum_fits, sum_read}
use Rattle.edges.proofs.extend_signed.Goals as goal

pub overflow_cast-c : goal.overflow_cast-c
overflow_cast-c c = wide c.args.c c.ranges.c

pub overflow_add-c : goal.overflow_add-c
overflow_add-c c = rw (sum_is c.args.c c.ranges.c) (sum_fits c.args.c c.ranges.c)

pub overflow_cast-c-2 : goal.overflow_cast-c-2
overflow_cast-c-2 c =
    let h = raised_high c.args.c c.ranges.c in
    rw (sum_read c.args.c c.ranges.c) (tt, record { fits = omega arith })

pub extend-requires : goal.extend-requires
extend-requires c =
    let h = raised_high c.args.c c.ranges.c in
    rw (sum_read c.args.c c.ranges.c)
    (record { s_low = omega arith; s_high = omega arith; c_high = omega arith; d_high = omega arith })

pub returns : goal.returns
returns c =
    let a = c.args in
    let f = c.ranges.c in
    rw (sum_read a.c f) at c.extend.ensures
    ∙ place_is a.mode a.s (raised a.c) depth (omega arith)
    ∙ ap (place_of a.mode a.s) (pair_raised a.c f)
