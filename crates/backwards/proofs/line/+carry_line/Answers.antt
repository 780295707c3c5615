use Rattle.std.proofs.Common.{◌≡◌, ℕ, ◌*◌, ◌<◌, ◌^◌, sym, ◌∙◌, subst, arith}
use Rattle.exact_blur.specs.Exact.{exact_convolve}
use Rattle.share_laws.specs.Share.{exact_line, axis_scale}
use Rattle.back_passes.specs.Worth.{total, Carried}
use Rattle.back_passes.proofs.Worth.{total_blank}
use Rattle.backwards.proofs.Lines.{line_none}
use Rattle.backwards.proofs.Level.{down_ready, through_ready, row_blank, up_ready, line_carried, outputs_blank}
use Rattle.backwards.proofs.line.+carry_line.Goals as goal

-- ---- no decimation
no_more : {n : ℕ} (a : ℕ) → n ≡ 0 → axis_scale n * a < 2 ^ 32 → 65536 * a < 2 ^ 32
no_more a e h = subst (λ (k : ℕ). axis_scale k * a < 2 ^ 32) e h

pub move_back-requires-clause-fact_1 : goal.move_back-requires-clause-fact_1
move_back-requires-clause-fact_1 t c =
    let a = c.args in
    let r = c.requires in
    record {
      sized = record { low = omega (arith, r.low, r.row_is); high = omega (arith, r.high, r.row_is) };
      kernel = r.kernel;
      far = omega (arith, r.high, r.outputs_is);
      room = omega (arith, total_blank a.row.now r.blank, no_more (total a.outputs.now) c.if-n-eq0.true r.room);
    }

pub returns-then-n-eq0-clause-carried : goal.returns-then-n-eq0-clause-carried
returns-then-n-eq0-clause-carried t c =
    let a = c.args in
    let row = c.move_back.new.row in
    let made = subst (λ (s : ℕ). Carried a.outputs.now row (exact_convolve a.mode a.numerators.now s)) c.requires.row_is c.move_back.ensures.carried in
    subst (λ (n : ℕ). Carried a.outputs.now row (exact_line a.mode a.numerators.now n a.side.s)) (sym c.if-n-eq0.true)
    (line_none a.mode a.numerators.now a.outputs.now row a.side.s made)

-- ---- a decimation
pub move_back-requires-else-n-eq0-clause-fact_1 : goal.move_back-requires-else-n-eq0-clause-fact_1
move_back-requires-else-n-eq0-clause-fact_1 t c =
    down_ready c.requires c.if-n-eq0.false c.length-k.result (c.length-k.ensures ∙ c.half-t.ensures)

pub carry_line-requires : goal.carry_line-requires
carry_line-requires t c =
    let d = c.move_back-else-n-eq0 in (
      omega arith,
      through_ready c.requires c.if-n-eq0.false c.length-k.result (c.length-k.ensures ∙ c.half-t.ensures) c.args.mode d.new.outputs d.new.row
          (record { outputs_long = d.auto.outputs; row_long = d.auto.row; carried = d.ensures.carried; blank = d.ensures.blank }) c.half-t.result.s c.half-t.ensures,
    )

pub move_back-requires-else-n-eq0-2-clause-fact_1 : goal.move_back-requires-else-n-eq0-2-clause-fact_1
move_back-requires-else-n-eq0-2-clause-fact_1 t c =
    let d = c.move_back-else-n-eq0 in
    let v = c.carry_line in
    up_ready c.requires c.if-n-eq0.false c.length-k.result (c.length-k.ensures ∙ c.half-t.ensures) c.args.mode d.new.outputs d.new.row
    (record { outputs_long = d.auto.outputs; row_long = d.auto.row; carried = d.ensures.carried; blank = d.ensures.blank }) c.half-t.result.s c.half-t.ensures
    v.new.outputs v.new.row (record { outputs_long = v.auto.outputs; row_long = v.auto.row; carried = v.ensures.carried; blank = v.ensures.blank })

pub move_back-requires-else-n-eq0-2-clause-fact_2 : goal.move_back-requires-else-n-eq0-2-clause-fact_2
move_back-requires-else-n-eq0-2-clause-fact_2 t c =
    let d = c.move_back-else-n-eq0 in
    let v = c.carry_line in
    row_blank c.requires c.if-n-eq0.false c.length-k.result (c.length-k.ensures ∙ c.half-t.ensures) c.args.mode d.new.outputs d.new.row
    (record { outputs_long = d.auto.outputs; row_long = d.auto.row; carried = d.ensures.carried; blank = d.ensures.blank }) c.half-t.result.s c.half-t.ensures
    v.new.outputs v.new.row (record { outputs_long = v.auto.outputs; row_long = v.auto.row; carried = v.ensures.carried; blank = v.ensures.blank })

pub returns-else-n-eq0-clause-carried : goal.returns-else-n-eq0-clause-carried
returns-else-n-eq0-clause-carried t c =
    let d = c.move_back-else-n-eq0 in
    let v = c.carry_line in
    line_carried c.requires c.if-n-eq0.false c.length-k.result (c.length-k.ensures ∙ c.half-t.ensures) c.args.mode d.new.outputs d.new.row
    (record { outputs_long = d.auto.outputs; row_long = d.auto.row; carried = d.ensures.carried; blank = d.ensures.blank }) c.half-t.result.s c.half-t.ensures
    v.new.outputs v.new.row (record { outputs_long = v.auto.outputs; row_long = v.auto.row; carried = v.ensures.carried; blank = v.ensures.blank })
    c.move_back-else-n-eq0-2.new.row c.move_back-else-n-eq0-2.ensures.carried

pub returns-else-n-eq0-clause-blank : goal.returns-else-n-eq0-clause-blank
returns-else-n-eq0-clause-blank t c =
    let d = c.move_back-else-n-eq0 in
    let v = c.carry_line in
    outputs_blank c.requires c.if-n-eq0.false c.length-k.result (c.length-k.ensures ∙ c.half-t.ensures) c.args.mode d.new.outputs d.new.row
    (record { outputs_long = d.auto.outputs; row_long = d.auto.row; carried = d.ensures.carried; blank = d.ensures.blank }) c.half-t.result.s c.half-t.ensures
    v.new.outputs v.new.row (record { outputs_long = v.auto.outputs; row_long = v.auto.row; carried = v.ensures.carried; blank = v.ensures.blank })
    c.move_back-else-n-eq0-2.new.outputs c.move_back-else-n-eq0-2.ensures.blank
