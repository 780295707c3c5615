-- The whole blocks and the rest are all.
use mathlib.Core.List.{List}
use mathlib.Core.Path.{◌≡◌, refl, sym, ◌∙◌}
use Prim.Native.Nat.{ℕ, ◌-◌, ◌*◌, ◌/◌}
use native.Mathlib.Omega.{arith}
use lib.ListN.{length, take, length-append, length-take, length-drop}
use lib.Seq.{length-take-le}
use Rattle.pam_convert.specs.Straight.{rule}
use Rattle.pam_convert.proofs.Anew.{part_fits, joined}
use Rattle.pam_convert.proofs.bodies.convert.Goals as goal

-- the bytes of whole blocks
module _ (to from : List ℕ) (same : length from ≡ length to) where
  abbrev whole : ℕ
  whole = length to / 128 * 128

  front_to : length (take whole to) ≡ whole
  front_to = length-take-le whole to (omega arith)

  front_from : length (take whole from) ≡ whole
  front_from = length-take-le whole from (omega arith)

pub convert_blocks-requires : goal.convert_blocks-requires
convert_blocks-requires g c =
    let to = c.args.to.now in
    let from = c.args.from.now in
    let same = c.requires.fact_1 in
    record {
      fact_1 = (front_from to from same ∙ sym (front_to to from same), omega (arith, front_to to from same));
      fact_2 = refl;
      fact_3 = refl;
      fact_4 = part_fits from 0 (whole to from same) refl g.W.Words.out (omega arith) c.requires.fact_3;
    }

pub convert_rest-requires : goal.convert_rest-requires
convert_rest-requires g c =
    let to = c.args.to.now in
    let from = c.args.from.now in
    let same = c.requires.fact_1 in
    let long = c.convert_blocks.auto.to ∙ front_to to from same in
    record {
      fact_1 = (
        simp (length-take, length-drop, length-append) (omega (arith, long, same)),
        simp (length-take, length-drop, length-append) (omega (arith, long, c.requires.fact_2)),
        simp (length-take, length-drop, length-append) (omega (arith, long)),
      );
      fact_2 = refl;
      fact_3 = refl;
      fact_4 = part_fits from (whole to from same) (length from - whole to from same) (omega arith) g.W.Words.out (omega arith) c.requires.fact_3;
    }

pub returns : goal.returns
returns g c =
    let to = c.args.to.now in
    let from = c.args.from.now in
    joined (rule g.W.Words.out) from to _ _ (whole to from c.requires.fact_1) (omega arith) (omega arith) c.requires.fact_2 c.requires.fact_1 c.convert_blocks.ensures c.convert_rest.ensures

pub slice_bounds-convert_blocks-end-2 : goal.slice_bounds-convert_blocks-end-2
slice_bounds-convert_blocks-end-2 g c = sym (front_to c.args.to.now c.args.from.now c.requires.fact_1)

pub slice_bounds-convert_blocks-end-3 : goal.slice_bounds-convert_blocks-end-3
slice_bounds-convert_blocks-end-3 g c = sym (front_from c.args.to.now c.args.from.now c.requires.fact_1)
