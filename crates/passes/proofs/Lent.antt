-- Parts of a list that are lent: what they hold, a run of the whole when they have come back, and one line more or several of what a pass makes.
use mathlib.Core.Path.{◌≡◌, sym, ap, ◌∙◌}
use mathlib.Core.List.{List, ◌++◌}
use Prim.Native.Nat.{ℕ, ◌+◌, ◌-◌, ◌*◌, ◌/◌, ◌%◌, ◌≤◌, ◌<◌}
use native.Mathlib.Nat.{add-mul, mul-pos, mod-lt, div-add-mod', div-lt_iff_lt-mul}
use native.Mathlib.Omega.{arith}
use borrow.Rule.Slice.PartMut.{put_mid, post_of, take_put, drop_put, same_len_mid}
use lib.ListN.{length, get_or, take, drop, length-take, length-drop, get_or-append}
use lib.Seq.{length-take-le, get_or-take, get_or-drop, drop_at}
use Rattle.picture.specs.Spans.{Run}
use Rattle.picture.proofs.Build.{get_or-build}
use Rattle.picture.proofs.Planes.{quotient, remainder}
use Rattle.picture.proofs.Spans.{within, span_at, span_join}
use Rattle.passes.specs.Passes.{Pass}
use Rattle.passes.specs.Written.{line_byte, lines_byte, passed}
use Rattle.passes.proofs.Local.{Local}
use Rattle.passes.proofs.Planes.{at}
use Rattle.passes.proofs.Written.{Lined, line_ends, lined_more}

-- the n bytes of a list from o on, lent by their two ends
pub length_lent : (l : List ℕ) (o n : ℕ) → o + n ≤ length l → length (take (o + n - o) (drop o l)) ≡ n
length_lent l o n h = simp (length-take, length-drop) (omega arith)

pub lent_at : (l : List ℕ) (o n j : ℕ) → j < n → get_or (take (o + n - o) (drop o l)) j 0 ≡ get_or l (o + j) 0
lent_at l o n j h = get_or-take (o + n - o) (drop o l) j 0 (omega arith) ∙ get_or-drop o l j 0

-- lists whose first elements, or whose last, are the same
front : (n : ℕ) (l m : List ℕ) → take n l ≡ take n m → (j : ℕ) → j < n → get_or l j 0 ≡ get_or m j 0
front n l m e j h = sym (get_or-take n l j 0 h) ∙ ap (λ (k : List ℕ). get_or k j 0) e ∙ get_or-take n m j 0 h

rest : (n : ℕ) (l m : List ℕ) → drop n l ≡ m → (k : ℕ) → get_or l (n + k) 0 ≡ get_or m k 0
rest n l m e k = sym (get_or-drop n l k 0) ∙ ap (λ (m : List ℕ). get_or m k 0) e

-- they have come back as `part`
module _ (d part : List ℕ) (o n : ℕ) (f : ℕ → ℕ) (l : o + n ≤ length d) (s : length part ≡ length (take (o + n - o) (drop o d))) (g : (k : ℕ) → k < n → get_or part k 0 ≡ f k) where
  abbrev back : List ℕ
  back = put_mid o (o + n - o) d part

  long : length part ≡ n
  long = s ∙ length_lent d o n l

  pub run_back : Run 0 d back o n f
  run_back =
      record {
        size = same_len_mid o (o + n - o) d part s;
        inside = λ k _ h.
            rest o back (part ++ post_of o (o + n - o) d) (drop_at (take o d) _ o (length-take-le o d (omega arith))) k
            ∙ get_or-append part (post_of o (o + n - o) d) 0 k (omega (arith, long))
            ∙ g k h;
        below = λ j h. front o back d (take_put o (o + n - o) d part (omega arith)) j (omega arith);
        above = λ j h.
            let p : o + n + (j - (o + n)) ≡ j = omega arith in
            ap (λ (i : ℕ). get_or back i 0) (sym p)
            ∙ rest (o + n) back (drop (o + n) d) (drop_put o (o + n) d part (omega arith) l (omega (arith, long))) (j - (o + n))
            ∙ get_or-drop (o + n) d (j - (o + n)) 0
            ∙ ap (λ (i : ℕ). get_or d i 0) p;
      }

-- one line more, in the part that is lent for it
pub line_more : {f : Pass} {src : List ℕ} {len stride : ℕ} {old d : List ℕ} {y : ℕ} → Lined f src len len stride old d y → (lines : ℕ) → length old ≡ lines * (len * stride) → y < lines →
    let size = len * stride in
    let place = y * size in
    (part : List ℕ) → length part ≡ length (take (place + size - place) (drop place d)) → ((k : ℕ) → k < size → get_or part k 0 ≡ line_byte f src place len stride k) →
    Lined f src len len stride old (put_mid place (place + size - place) d part) (y + 1)
line_more {len = len} {stride = stride} {d = d} {y = y} p lines all h part e g =
    lined_more p (run_back d part (y * (len * stride)) (len * stride) _ (line_ends p lines all h) e g)

-- several lines more: those of src from line y on, which `band` holds
module _ {f : Pass} (local : Local f) (src band : List ℕ) {len out stride : ℕ} (len_low : 0 < len) (out-low : 0 < out) (stride_low : 0 < stride) (y m : ℕ)
    (held : (j : ℕ) → j < m * (len * stride) → get_or band j 0 ≡ get_or src (y * (len * stride) + j) 0) where
  -- byte k of them, among those of all lines
  same_byte : (k : ℕ) → k < m * (out * stride) → lines_byte f band len out stride k ≡ lines_byte f src len out stride (y * (out * stride) + k)
  same_byte k h =
      let size = out * stride in
      let z = k / size in
      let r = k % size in
      let some : 0 < size = mul-pos out-low stride_low in
      let low : r < size = mod-lt k some in
      let line : z < m = (div-lt_iff_lt-mul some).1 h in
      let is : y * size + k ≡ (y + z) * size + r = omega (arith, add-mul y z size, div-add-mod' k size) in
      rw (is, quotient size (y + z) r low, remainder size (y + z) r low)
      (local len _ _ len_low
      (λ i li.
      let j = z * (len * stride) + i * stride + r % stride in
      let there : y * (len * stride) + j ≡ (y + z) * (len * stride) + i * stride + r % stride = omega (arith, add-mul y z (len * stride)) in
      held j (omega (arith, within 0 (len * stride) z m line, within 0 stride i len li, mod-lt r stride_low)) ∙ at src there)
      (r / stride))

  pub lines_more : {old d e : List ℕ} → Lined f src len out stride old d y → Run 0 d e (y * (out * stride)) (m * (out * stride)) (λ k. get_or (passed f band m len out stride) k 0) → Lined f src len out stride old e (y + m)
  unfolding passed
  lines_more p t =
      let size = out * stride in
      let more : (y + m) * size ≡ y * size + m * size = add-mul y m size in
      record {
        made =
            span_join (omega arith) (omega (arith, more)) p.made
            (record {
              size = t.size;
              inside = λ i low high.
                  let k = i - y * size in
                  let short : k < m * size = omega (arith, more) in
                  let here : y * size + k ≡ i = omega arith in
                  span_at t k {j = 0 + i} (omega arith) (omega arith) short ∙ get_or-build _ _ k short ∙ same_byte k short ∙ ap (lines_byte f src len out stride) here;
              below = λ j h. t.below j (omega arith);
              above = λ j h. t.above j (omega (arith, more));
            });
      }
