use mathlib.Core.Path.{◌≡◌, refl, sym, ap, ap₂, subst, ◌∙◌}
use mathlib.Core.List.{List, append-nil}
use Prim.Native.Nat.{ℕ, ◌+◌, ◌-◌, ◌*◌, ◌/◌, ◌%◌, ◌≤◌, ◌<◌}
use native.Mathlib.Omega.{arith}
use borrow.Rule.Slice.PartMut.{put_mid}
use lib.ListN.{length, take, drop, length-append, length-take, length-drop}
use lib.Seq.{drop-length}
use Rattle.picture.specs.Build.{build}
use Rattle.picture.specs.Planes.{laid}
use Rattle.picture.proofs.Build.{length_build}
use Rattle.pam_format.proofs.Lines.{Begun, begin, more, part_is}
use Rattle.pam_convert.specs.Straight.{rule, anew_at}
use Rattle.pam_convert.proofs.Anew.{part_fits, block}
use Rattle.pam_convert.proofs.bodies.convert_blocks.Goals as goal

pub loop-k-init : goal.loop-k-init
unfolding build
loop-k-init g c = (begin _, refl, omega arith, omega arith)

-- a block lies inside
room : (k to from : ℕ) → k < to / 128 → to % 128 ≡ 0 → from ≡ to → (128 * k + 128 ≤ to) × (128 * k + 128 ≤ from) × (128 * k % 4 ≡ 0)
room k to from h n e = (omega arith, omega arith, omega arith)

pub convert_block-requires : goal.convert_block-requires
convert_block-requires g c =
    let i = c.loop-k.invariant in
    let at = 128 * c.loop-k.k in
    let in_room = room c.loop-k.k (length c.args.to.now) (length c.args.from.now) (omega arith) c.requires.fact_1.1 c.requires.fact_1.0 in
    record {
      fact_1 = simp (length-take, length-drop) (omega (arith, in_room, i.2));
      fact_2 = simp (length-take, length-drop) (omega (arith, in_room, i.1, i.2));
      fact_3 = omega (arith, i.2, i.3);
      fact_4 = part_fits c.args.from.now at (at + 128 - at) in_room.2 g.W.Words.out (omega (arith, in_room)) c.requires.fact_4;
    }

pub loop-k-preserved : goal.loop-k-preserved
loop-k-preserved g c =
    let i = c.loop-k.invariant in
    let from = c.args.from.now in
    let to = c.loop-k.to in
    let at = 128 * c.loop-k.k in
    let made_by = anew_at (rule g.W.Words.out) in
    let in_room = room c.loop-k.k (length c.args.to.now) (length from) (omega arith) c.requires.fact_1.1 c.requires.fact_1.0 in
    let text = build 128 (made_by (take 128 (drop at from))) in
    let long : at + 128 - at ≡ 128 = omega arith in
    let size : length (take (at + 128 - at) (drop at to)) ≡ 128 = simp (length-take, length-drop) (omega (arith, in_room, i.1)) in
    let made : c.convert_block.new.to ≡ text = c.convert_block.ensures ∙ ap₂ (λ (m k : ℕ). build m (made_by (take k (drop at from)))) size long in
    let put = part_is at 128 text to c.convert_block.new.to made (sym (length_build 128 _)) in
    let next = more text i.0 (ap (λ (m : ℕ). at + m) (sym (length_build 128 _))) put in
    let further : 128 * (c.loop-k.k + 1) ≡ at + 128 = omega arith in (
      rw further (subst (λ (t : List ℕ). Begun t c.args.to.now (at + 128) (put_mid at (at + 128 - at) to c.convert_block.new.to)) (block from at 128 in_room.2 (rule g.W.Words.out) refl) next),
      ap length put ∙ simp (length-append, length-take, length-drop, length_build) (omega (arith, in_room, i.1)),
      omega (arith, c.convert_block.auto.words, i.2),
      omega (arith, c.convert_block.auto.factors, i.3),
    )

pub returns : goal.returns
unfolding laid
returns g c =
    let all : 128 * c.loop-k.k ≡ length c.args.to.now = omega (arith, c.requires.fact_1.1) in
    rw (c.loop-k.invariant.0.so, all, length_build (length c.args.to.now) (anew_at (rule g.W.Words.out) c.args.from.now), drop-length c.args.to.now, append-nil)
