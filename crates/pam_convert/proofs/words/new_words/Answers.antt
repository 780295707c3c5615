use mathlib.Core.Path.{◌≡◌, refl}
use mathlib.Core.List.{List, ◌++◌, append-nil}
use Prim.Native.Nat.{ℕ, ◌<◌}
use native.Mathlib.Omega.{arith}
use lib.ListN.{length, get_or, drop, length-set}
use lib.Seq.{drop-length}
use Rattle.picture.specs.Build.{build}
use Rattle.picture.proofs.Build.{build_more, build_next}
use Rattle.pam_convert.specs.Straight.{new_word}
use Rattle.pam_convert.proofs.words.new_words.Goals as goal

pub loop-k-init : goal.loop-k-init
unfolding build
loop-k-init g c = (refl, refl)

-- the word that is next is as it was
pub next : (f : ℕ → ℕ) (old words : List ℕ) (k : ℕ) → words ≡ build k (λ j. f (get_or old j 0)) ++ drop k old → k < length old → get_or words k 0 ≡ get_or old k 0
next f old words k e l = rw e (build_next (λ j. f (get_or old j 0)) old k l)

pub anew-requires : goal.anew-requires
anew-requires g c e = rw (next (new_word g.W.Words.out) _ _ _ c.loop-k.invariant.0 (omega arith)) (c.requires e c.loop-k.k (omega arith))

pub loop-k-preserved : goal.loop-k-preserved
loop-k-preserved g c = (
  rw (c.anew.ensures, next (new_word g.W.Words.out) _ _ _ c.loop-k.invariant.0 (omega arith), c.loop-k.invariant.0) (build_more (λ j. new_word g.W.Words.out (get_or c.args.words.now j 0)) c.args.words.now c.loop-k.k (omega arith)),
  simp length-set c.loop-k.invariant.1,
)

pub returns : goal.returns
returns g c =
    let e : c.loop-k.k ≡ length c.args.words.now = omega arith in
    rw (c.loop-k.invariant.0, e, drop-length c.args.words.now, append-nil)
