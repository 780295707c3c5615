-- The rows go to the front of scratch and the columns back to the front of the picture; together they are the level's pass.
use mathlib.Core.Path.{◌≡◌, ◌∙◌}
use mathlib.Core.List.{List}
use Prim.Native.Nat.{ℕ, ◌*◌, ◌≤◌}
use native.Mathlib.Nat.{mul-le-mul}
use native.Mathlib.Omega.{arith}
use lib.ListN.{length}
use lib.Seq.{length-take-le, take_at}
use Rattle.picture.proofs.Sizes.{room_is}
use Rattle.passes.specs.declared.Form.{Form}
use Rattle.decimate.proofs.Levels.{rows_room, level_made}
use Rattle.decimate.proofs.resize_form.Goals as goal
use Rattle.decimate.proofs.resize_form.Goals.{After-form_bytes-after}

-- the sizes that the code works out
module _ (m : After-form_bytes-after) where
  abbrev form : Form
  form = m.args.form

  w-is : m.width-w.result ≡ m.args.s.w
  w-is = m.width-w.ensures

  h-is : m.height-h.result ≡ m.args.s.h
  h-is = m.height-h.ensures

  v-is : m.width-v.result ≡ m.args.t.w
  v-is = m.width-v.ensures

  u-is : m.height-u.result ≡ m.args.t.h
  u-is = m.height-u.ensures

  abbrev lines : ℕ
  lines = form.planes * m.height-h.result

  abbrev stride : ℕ
  stride = m.width-v.result * form.lanes

  -- the arithmetic has room for them, and its parts lie within the buffers
  lines_fit : lines ≤ 262144
  lines_fit = mul-le-mul {n₁ = form.planes} {m₁ = m.height-h.result} {n₂ = 4} {m₂ = 65536} m.requires.formed.planes_high (omega (arith, room_is, h-is, m.requires.s_sized.h_high))

  stride_fits : stride ≤ 262144
  stride_fits = mul-le-mul {n₁ = m.width-v.result} {m₁ = form.lanes} {n₂ = 65536} {m₂ = 4} (omega (arith, room_is, v-is, m.requires.t_sized.w_high)) m.requires.formed.lanes_high

  after_fits : m.form_bytes-after.result ≤ length m.args.picture.now
  after_fits = omega (arith, m.form_bytes-after.ensures, m.requires.t_fits)

-- the rows leave either buffer as long as it was
after_stays : (m : After-form_bytes-after) (picture : List ℕ) → length picture ≡ length m.args.picture.now → m.form_bytes-after.result ≤ length picture
after_stays m picture same = omega (arith, after_fits m, same)

pub overflow_mul-lines : goal.overflow_mul-lines
overflow_mul-lines c = omega (arith, lines_fit (goal.at.overflow_mul-lines c).After-form_bytes-after)

pub overflow_mul-stride : goal.overflow_mul-stride
overflow_mul-stride c = omega (arith, stride_fits (goal.at.overflow_mul-stride c).After-form_bytes-after)

pub resize_rows-requires : goal.resize_rows-requires
resize_rows-requires c =
    let m = (goal.at.resize_rows-requires c).After-form_bytes-after in
    rows_room c.requires (w-is m) (h-is m) (v-is m) (u-is m) c.form_bytes-before.ensures c.form_bytes-after.ensures c.rows_of-rows.ensures

pub returns : goal.returns
returns c =
    let m = (goal.at.returns c).After-form_bytes-after in
    take_at _ _ _ (c.resize_lines.auto.dst ∙ length-take-le _ _ (after_stays m _ c.resize_rows.auto.picture) ∙ c.form_bytes-after.ensures)
    ∙ level_made c.requires (w-is m) (h-is m) (v-is m) (u-is m) c.form_bytes-before.ensures c.form_bytes-after.ensures c.args.mode
    c.rows_of-rows.ensures c.resize_rows.ensures c.resize_lines.ensures
