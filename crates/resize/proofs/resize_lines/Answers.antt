-- The first outputs of all lines, those inside and the last ones are the pass.
use Rattle.resize.proofs.Sizes.{outs}
use Rattle.resize.proofs.Outputs.{lines_made}
use Rattle.resize.proofs.resize_lines.Goals as goal

pub returns : goal.returns
returns c =
    let a = c.args in
    let p = c.requires in
    lines_made (outs a.kind a.len a.out p.len_low p.len_high p.makes) p.stride_low c.output_taps-first.ensures c.output_taps-last.ensures a.src.now a.lines c.requires.dst_length c.blend_ends.ensures (c.inner_lines.ensures a.mode) c.blend_ends-2.ensures
