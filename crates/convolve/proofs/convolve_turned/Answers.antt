-- Turned, convolved as one line and turned back are the pass over the lines.
use mathlib.Core.Path.{◌∙◌}
use native.Mathlib.Omega.{arith}
use Rattle.passes.specs.Passes.{convolve}
use Rattle.passes.proofs.Local.{convolve_local}
use Rattle.turns.proofs.Lines.{one_fits, as_one, turned_pass}
use Rattle.convolve.proofs.convolve_turned.Goals as goal

pub overflow_mul-lines : goal.overflow_mul-lines
overflow_mul-lines c = omega (arith, one_fits c.requires.lined)

pub convolve_lines-requires : goal.convolve_lines-requires
convolve_lines-requires c =
    record { kernel = c.requires.kernel; lined = as_one c.requires.lined (c.turn.auto.dst ∙ c.requires.lined.dst_size) c.requires.lined.src_size }

pub returns : goal.returns
returns c =
    let a = c.args in
    let p = c.requires.lined in
    turned_pass p p.len_low (convolve a.mode a.weights.now) (convolve_local a.mode a.weights.now) c.turn.ensures c.convolve_lines.ensures c.turn-2.ensures
