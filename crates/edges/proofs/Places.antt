-- Laws of the place that a coordinate reads: inside it is the coordinate itself, and it is always one of the line's elements or outside.
use Rattle.std.proofs.Common.{◌≡◌, ℕ, ◌+◌, ◌-◌, ◌*◌, ◌%◌, ◌^◌, ◌<◌, ◌≤◌, Bool, true, false, cond, ltb, sym, refl, ap, ◌∙◌, subst, mod-lt, mod-eq_of_lt, add-mul, mul-le-mul_left, arith, ltb-false, ltb-true, le-ltb, lt-ltb, Option, Some}
use native.Mathlib.Nat.{mul-sub, add-mul-mod_self_right}
use Rattle.picture.specs.Sizes.{side_room}
use Rattle.picture.proofs.Sizes.{room_is}
use Rattle.picture.specs.declared.EdgeMode.{EdgeMode}
use Rattle.picture.specs.declared.EdgeMode.TheVariants.{Duplicate, Wrap, Mirror, None}
use Rattle.edges.specs.Edges.{inside_or, modulo, place, Below, Difference, farthest, Reach}

-- c - d modulo n is the one m below n that differs from c - d by whole n's
pub modulo_is : (n c d m a b : ℕ) → m < n → c + a * n ≡ d + m + b * n → modulo n c d ≡ m
modulo_is n c d m a b l e =
    let sum : c + d * (n - 1) + a * n ≡ m + (b + d) * n =
    omega (arith, add-mul b d n, mul-sub d n 1, mul-le-mul_left {m = 1} {n = n} d (omega arith)) in
    sym (add-mul-mod_self_right (c + d * (n - 1)) a n)
    ∙ ap (λ (k : ℕ). k % n) sum
    ∙ add-mul-mod_self_right m (b + d) n
    ∙ mod-eq_of_lt l

either : (t : Bool) (a : Option ℕ) → cond t a a ≡ a
either true a = refl
either false a = refl

-- a coordinate inside is its own place, whatever the edge rule
pub place_near : (mode : EdgeMode) (s c d : ℕ) → d ≤ c → c - d < s → place mode s c d ≡ Some (c - d)
unfolding place
place_near Duplicate s c d l h = simp (le-ltb _ _ l, lt-ltb _ _ h)
place_near Wrap s c d l h = ap Some (modulo_is s c d (c - d) 0 0 h (omega arith))
place_near Mirror s c d l h = simp (modulo_is (2 * s) c d (c - d) 0 0 (omega arith) (omega arith), lt-ltb _ _ h)
place_near None s c d l h = simp (le-ltb _ _ l, lt-ltb _ _ h)

-- Wrap reads the element m at the coordinates that differ from it by whole periods, ..
pub place_on : (s c d m a b : ℕ) → m < s → c + a * s ≡ d + m + b * s → place Wrap s c d ≡ Some m
unfolding place
place_on s c d m a b l e = ap Some (modulo_is s c d m a b l e)

-- .. and Mirror at those that differ by whole periods from its reflection's, 2s - 1 - m
pub place_back : (s c d m a b : ℕ) → m < s → c + a * (2 * s) ≡ d + (2 * s - 1 - m) + b * (2 * s) → place Mirror s c d ≡ Some m
unfolding place
place_back s c d m a b l e =
    simp (modulo_is (2 * s) c d (2 * s - 1 - m) a b (omega arith) e, le-ltb (2 * s - 1 - m) s (omega arith)) (ap Some (omega arith))

-- a difference modulo 2^64 is the difference itself where it is small, ..
pub small_difference : (c d i s : ℕ) → Difference i c d → i < s → s ≤ side_room → d < 2 * farthest → c ≡ d + i
small_difference c d i s e l h f = omega (arith, room_is)

-- .. and where that is not below 0
pub whole_difference : (c d i : ℕ) → Difference i c d → i < 2 ^ 64 → d ≤ c → c ≡ d + i
whole_difference c d i e l h = omega arith

-- hence a small one is the place, whatever the edge rule
pub place_inside : (mode : EdgeMode) (s c d i : ℕ) → Reach s c d → Difference i c d → i < s → place mode s c d ≡ Some i
place_inside mode s c d i r e l =
    let at = small_difference c d i s e l (omega arith) (omega arith) in
    place_near mode s c d (omega arith) (omega arith) ∙ ap Some (omega arith)

-- any other is that of a coordinate before the line or past it
pub inside_or_lem : (low high : Option ℕ) (s c d i : ℕ) (t : Bool) → Difference i c d → i < 2 ^ 64 → s ≤ i → ltb c d ≡ t → inside_or low high s c d ≡ cond t low high
inside_or_lem low high s c d i true e f h t = simp t
inside_or_lem low high s c d i false e f h t =
    let at = whole_difference c d i e f (ltb-false c d t) in
    simp (t, le-ltb (c - d) s (omega arith))

pub place_none : (s c d i : ℕ) → Difference i c d → i < 2 ^ 64 → s ≤ i → place None s c d ≡ Option.None
unfolding place
place_none s c d i e f h = inside_or_lem Option.None Option.None s c d i (ltb c d) e f h refl ∙ either (ltb c d) Option.None

below_cond : (t : Bool) (a b : Option ℕ) (s : ℕ) → (t ≡ true → Below a s) → (t ≡ false → Below b s) → Below (cond t a b) s
below_cond true a b s f g = f refl
below_cond false a b s f g = g refl

below_inside : (low high : Option ℕ) (s c d : ℕ) → Below low s → Below high s → Below (inside_or low high s c d) s
below_inside low high s c d f g =
    below_cond (ltb c d) _ _ s (λ _. f) (λ _. below_cond (ltb (c - d) s) _ _ s (ltb-true (c - d) s) (λ _. g))

-- a place is one of the line's elements, or outside
pub below : (mode : EdgeMode) (s c d : ℕ) → 0 < s → Below (place mode s c d) s
unfolding place
below Duplicate s c d z = below_inside (Some 0) (Some (s - 1)) s c d z (omega arith)
below Wrap s c d z = mod-lt (c + d * (s - 1)) z
below Mirror s c d z =
    let m = modulo (2 * s) c d in
    below_cond (ltb m s) _ _ s (ltb-true m s)
    (λ t. omega (arith, ltb-false m s t, mod-lt (c + d * (2 * s - 1)) {m = 2 * s} (omega arith)))
below None s c d z = below_inside Option.None Option.None s c d tt tt

-- hence an element that was found is below the size
pub found_below : {a : Option ℕ} {s i : ℕ} → Below a s → a ≡ Some i → i < s
found_below {s = s} b e = subst (λ (p : Option ℕ). Below p s) e b
