-- A column and a row inside, and the product of their shares.
use mathlib.Core.Path.{◌∙◌, sym, ap₂}
use Prim.Native.Nat.{ℕ, ◌*◌, ◌/◌, ◌%◌}
use native.Mathlib.Nat.{mul_comm, mod-lt, div-lt_iff_lt-mul}
use native.Mathlib.Omega.{arith}
use Rattle.picture.proofs.Quarter.{area}
use Rattle.share_laws.specs.Share.{axis_share}
use Rattle.share_laws.proofs.Separate.{separate}
use Rattle.share_checks.proofs.Accepted.{across_asked, down_asked}
use Rattle.shares.proofs.single.share_of.Goals as goal

pub axis_share-x-requires : goal.axis_share-x-requires
axis_share-x-requires c =
    let p = c.requires in
    rw (c.across.ensures, c.width-w.ensures) (record { fact_1 = across_asked p.fact_1; fact_2 = mod-lt c.args.place p.fact_1.sides.w_low })

pub axis_share-y-requires : goal.axis_share-y-requires
axis_share-y-requires c =
    let p = c.requires in
    rw (c.down.ensures, c.width-w.ensures)
    (record {
      fact_1 = down_asked p.fact_1;
      fact_2 = (div-lt_iff_lt-mul p.fact_1.sides.w_low).1 (omega (arith, p.fact_2, mul_comm c.args.size.w c.args.size.h));
    })

pub overflow_mul-result : goal.overflow_mul-result
overflow_mul-result c =
    let x = c.axis_share-x in
    let y = c.axis_share-y in
    omega (arith, area x.result y.result x.type_inv y.type_inv)

pub returns : goal.returns
returns c =
    let a = c.args in
    ap₂ (λ (u v : ℕ). u * v)
    (c.axis_share-x.ensures ∙ ap₂ (λ (m w : ℕ). axis_share a.mode a.numerators.now a.n m (a.out % w) (a.place % w)) c.across.ensures c.width-w.ensures)
    (c.axis_share-y.ensures ∙ ap₂ (λ (m w : ℕ). axis_share a.mode a.numerators.now a.n m (a.out / w) (a.place / w)) c.down.ensures c.width-w.ensures)
    ∙ sym (separate a.mode a.numerators.now a.n a.size.w a.size.h (a.out % a.size.w) (a.out / a.size.w) (a.place % a.size.w) (a.place / a.size.w))
