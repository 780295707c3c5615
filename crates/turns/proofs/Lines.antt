-- Lines are turned, passed over as one line, and turned back: what the one line is, and that the three are the pass over the lines.
use mathlib.Core.Path.{◌≡◌, ◌∙◌, sym}
use mathlib.Core.List.{List}
use Prim.Native.Nat.{ℕ, ◌*◌, ◌≤◌, ◌<◌}
use native.Mathlib.Nat.{mul-pos}
use native.Mathlib.Omega.{arith}
use lib.ListN.{length}
use Rattle.picture.proofs.Spans.{within}
use Rattle.passes.specs.Lines.{Lines}
use Rattle.passes.specs.Passes.{Pass}
use Rattle.passes.specs.Written.{passed}
use Rattle.passes.proofs.Local.{Local}
use Rattle.turns.specs.Turned.{turned}
use Rattle.turns.proofs.Turned.{turned_size, turned_rows}

module _ {src dst : List ℕ} {lines len out size : ℕ} (p : Lines src dst lines len out size) where
  -- an element of the one line is no longer than all lines
  pub one_fits : lines * size ≤ length src
  one_fits = omega (arith, within 0 (lines * size) 0 len p.len_low, p.src_size, turned_size lines len size)

  pub as_one : {a b : List ℕ} → length a ≡ lines * (len * size) → length b ≡ lines * (out * size) → Lines a b 1 len out (lines * size)
  as_one {a} {b} ea eb =
      record {
        some = omega arith;
        len_low = p.len_low;
        len_high = p.len_high;
        stride_low = mul-pos p.some p.stride_low;
        src_size = omega (arith, ea, turned_size lines len size);
        dst_size = omega (arith, eb, turned_size lines out size);
      }

  pub turned_pass : 0 < out → (f : Pass) → Local f → {a b c : List ℕ} → a ≡ turned src lines len size → b ≡ passed f a 1 len out (lines * size) → c ≡ turned b out lines size → c ≡ passed f src lines len out size
  turned_pass o f l ea eb ec = ec ∙ rw (eb, ea) (sym (turned_rows f l src lines len out size p.len_low o p.stride_low))
