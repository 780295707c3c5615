-- Rows of one element become what one line of one element does, and short ones what they do turned.
use mathlib.Core.Path.{◌≡◌, sym, ap, ◌∙◌}
use Prim.Native.Nat.{ℕ, ◌*◌}
use native.Mathlib.Nat.{one-mul, mul-pos}
use native.Mathlib.Omega.{arith}
use Rattle.picture.proofs.Sizes.{room_is}
use Rattle.passes.specs.Passes.{convolve}
use Rattle.passes.proofs.Local.{convolve_local}
use Rattle.passes.proofs.OneWide.{one_wide}
use Rattle.convolve.proofs.convolve_rows.Goals as goal

-- the bytes of rows of one element
narrow : (w lines lanes n : ℕ) → w ≡ 1 → n ≡ lines * (w * lanes) → n ≡ lines * lanes
narrow w lines lanes n e l = l ∙ ap (λ (k : ℕ). lines * k) (ap (λ (k : ℕ). k * lanes) e ∙ one-mul lanes)

pub overflow_mul-lines : goal.overflow_mul-lines
overflow_mul-lines c =
    omega (arith, narrow c.args.w c.args.lines c.args.lanes _ c.if-w-eq1.true c.requires.lined.src_size)

pub convolve_lines-requires : goal.convolve_lines-requires
convolve_lines-requires c =
    let p = c.requires.lined in
    let size = narrow c.args.w c.args.lines c.args.lanes in
    let e = c.if-w-eq1.true in
    record {
      kernel = c.requires.kernel;
      lined = record {
        some = omega arith;
        len_low = omega arith;
        len_high = omega (arith, room_is);
        stride_low = mul-pos p.some p.stride_low;
        src_size = omega (arith, size _ e p.src_size);
        dst_size = omega (arith, size _ e p.dst_size);
      };
    }

pub returns-then-w-eq1 : goal.returns-then-w-eq1
returns-then-w-eq1 c =
    let a = c.args in
    let e : a.w ≡ 1 = c.if-w-eq1.true in
    rw e (c.convolve_lines.ensures ∙ sym (one_wide (convolve a.mode a.weights.now) (convolve_local a.mode a.weights.now) a.picture.now a.lines a.lanes))

pub returns-else-pays : goal.returns-else-pays
returns-else-pays c = c.convolve_lines-else-pays.ensures
