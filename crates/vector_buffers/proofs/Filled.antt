-- An array that is made by calls, one for each place, as a list that a rule gives: of the places, of what another gives of each, or of the elements of another list.
use mathlib.Core.Path.{◌≡◌, ◌∙◌, sym, ap, subst}
use mathlib.Core.List.{List, map}
use Prim.Native.Nat.{ℕ, zero, suc, ◌+◌, ◌<◌}
use native.Mathlib.Nat.{add-zero, zero-add}
use native.Mathlib.Omega.{arith}
use denote.Param.Members.{Mut}
use Rattle.std.specs.Fn.{Called}
use Rattle.std.specs.Array.{IsFromFnResult, IsFromFnResultFrom}
use lib.ListN.{length, get_or, length-map, get_or-map}
use lib.Seq.{ext_get_or}
use Rattle.picture.specs.Build.{build}
use Rattle.picture.proofs.Build.{length_build, get_or-build}

-- calls that leave their closure as it is, and give what the rule says of each place
each_made : {A F : Type 0} {g : Mut F (ℕ × Unit {0}) A} {s : F} (ys : List A) (d : A) (f : ℕ → A) → ((i : ℕ) (y : A) (q : F) → Called g s (i, tt) y q → (q ≡ s) × (y ≡ f i)) → (n i k : ℕ) → IsFromFnResultFrom g s ys i n → k < n → get_or ys (i + k) d ≡ f (i + k)
each_made ys d f told zero i k made h = absurd (omega arith)
each_made ys d f told (suc n) i zero (q, y, here, called, made) h = rw add-zero (here.1 d ∙ (told i y q called).1)
each_made {F = F} {g} ys d f told (suc n) i (suc k) (q, y, here, called, made) h =
    let next : i + suc k ≡ i + 1 + k = omega arith in
    let same : IsFromFnResultFrom g _ ys (i + 1) n = subst (λ (p : F). IsFromFnResultFrom g p ys (i + 1) n) (told i y q called).0 made in
    rw next (each_made ys d f told n (i + 1) k same (omega arith))

pub made_build : {F : Type 0} {g : Mut F (ℕ × Unit {0}) ℕ} {s : F} {ys : List ℕ} {n : ℕ} (f : ℕ → ℕ) → ((i : ℕ) (y : ℕ) (q : F) → Called g s (i, tt) y q → (q ≡ s) × (y ≡ f i)) → IsFromFnResult g s ys n → ys ≡ build n f
made_build {ys = ys} {n} f told made =
    ext_get_or 0 ys (build n f) (made.long ∙ sym (length_build n f))
    (λ k h. let l : k < n = rw made.long at h in rw zero-add at (each_made ys 0 f told n 0 k made.each l) ∙ sym (get_or-build n f k l))

-- the rule takes what another gives of each place
pub made_rule : {A F : Type 0} {g : Mut F (ℕ × Unit {0}) A} {s : F} {ys : List A} {n : ℕ} (f : ℕ → A) (at : ℕ → ℕ) → ((i : ℕ) (y : A) (q : F) → Called g s (i, tt) y q → (q ≡ s) × (y ≡ f (at i))) → IsFromFnResult g s ys n → ys ≡ map f (build n at)
made_rule {ys = ys} {n} f at told made =
    let ks = build n at in
    ext_get_or (f 0) ys (map f ks) (made.long ∙ sym (length-map ks f ∙ length_build n at))
    (λ k h. let l : k < n = rw made.long at h in rw zero-add at (each_made ys (f 0) (λ i. f (at i)) told n 0 k made.each l) ∙ ap f (sym (get_or-build n at k l)) ∙ sym (get_or-map f ks k 0))

-- the rule takes the places themselves
pub made_places : {A F : Type 0} {g : Mut F (ℕ × Unit {0}) A} {s : F} {ys : List A} {n : ℕ} (f : ℕ → A) → ((i : ℕ) (y : A) (q : F) → Called g s (i, tt) y q → (q ≡ s) × (y ≡ f i)) → IsFromFnResult g s ys n → ys ≡ map f (build n (λ k. k))
made_places f told made = made_rule f (λ k. k) told made

-- the rule takes the elements of another list
pub made_each : {X A F : Type 0} {g : Mut F (ℕ × Unit {0}) A} {s : F} {ys : List A} {n : ℕ} (d : X) (f : X → A) (xs : List X) → n ≡ length xs → ((i : ℕ) (y : A) (q : F) → Called g s (i, tt) y q → (q ≡ s) × (y ≡ f (get_or xs i d))) → IsFromFnResult g s ys n → ys ≡ map f xs
made_each {ys = ys} {n} d f xs long told made =
    ext_get_or (f d) ys (map f xs) (made.long ∙ long ∙ sym (length-map xs f))
    (λ k h. let l : k < n = rw made.long at h in rw zero-add at (each_made ys (f d) (λ i. f (get_or xs i d)) told n 0 k made.each l) ∙ sym (get_or-map f xs k d))
