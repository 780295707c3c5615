-- Each channel is read in its plane.
use mathlib.Core.Path.{ap}
use Prim.Native.Nat.{◌+◌, ◌*◌}
use native.Mathlib.Omega.{arith}
use Rattle.picture.specs.Buffers.{line_of}
use Rattle.plane_shadow.proofs.pixel_in.Goals as goal

pub returns : goal.returns
returns c =
    let a = c.args in
    let p = a.planes.now in
    rw (ap (line_of p) {x = 0 * a.n + a.i} {y = a.i} (omega arith), ap (line_of p) {x = 1 * a.n + a.i} {y = a.n + a.i} (omega arith))
