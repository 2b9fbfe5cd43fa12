-- What is found at a place of a list that was changed.
use Rattle.std.proofs.Common.{◌≡◌, ◌<◌, ◌⊎◌, inl, inr, ℕ, zero, suc, ◌+◌, ◌-◌, Some, List, [], ◌∷◌, ◌++◌, length, take, drop, reverse, get_or, refl, sym, ap, ◌∙◌, arith}
use Rattle.std.specs.Prelude.{slice_get, slice_set}
use Rattle.std.proofs.lemmas.List.{get_or-reverse, length-reverse}
use Rattle.std.proofs.lemmas.Option.{slice_get-get_or}

-- in front of others
pub found-append : {A : Type 0} (xs ys : List A) (j : ℕ) (y : A) → slice_get xs j ≡ Some y → slice_get (xs ++ ys) j ≡ Some y
found-append [] ys j y found = cc
found-append (x ∷ xs) ys zero y found = found
found-append (x ∷ xs) ys (suc j) y found = found-append xs ys j y found

pub found-before : {A : Type 0} (xs ys : List A) (j : ℕ) (y : A) → j < length xs → slice_get (xs ++ ys) j ≡ Some y → slice_get xs j ≡ Some y
found-before [] ys j y below found = absurd (omega (arith, below))
found-before (x ∷ xs) ys zero y below found = found
found-before (x ∷ xs) ys (suc j) y below found = found-before xs ys j y (omega arith) found

-- with one more behind
pub found-more : {A : Type 0} (xs : List A) (x : A) (j : ℕ) (y : A) → slice_get (xs ++ x ∷ []) j ≡ Some y
    → (slice_get xs j ≡ Some y) ⊎ ((j ≡ length xs) × (Some x ≡ Some y))
found-more [] x zero y found = inr (refl, found)
found-more [] x (suc j) y found = cc
found-more (z ∷ xs) x zero y found = inl found
found-more (z ∷ xs) x (suc j) y found =
    elim (found-more xs x j y found) [ inl same ↦ inl same | inr last ↦ inr (ap suc last.0, last.1) ]

-- among the first ones
pub found-take : {A : Type 0} (n : ℕ) (xs : List A) (j : ℕ) (y : A) → slice_get (take n xs) j ≡ Some y → (j < n) × (slice_get xs j ≡ Some y)
found-take zero xs j y found = cc
found-take (suc n) [] j y found = cc
found-take (suc n) (x ∷ xs) zero y found = (omega arith, found)
found-take (suc n) (x ∷ xs) (suc j) y found =
    let there = found-take n xs j y found in (omega (arith, there.0), there.1)

-- where another was written
pub found-set : {A : Type 0} (xs : List A) (i : ℕ) (w : A) (j : ℕ) (y : A) → slice_get (slice_set xs i w) j ≡ Some y
    → (slice_get xs j ≡ Some y) ⊎ ((i ≡ j) × (Some w ≡ Some y))
found-set [] i w j y found = inl found
found-set (x ∷ xs) zero w zero y found = inr (refl, found)
found-set (x ∷ xs) zero w (suc j) y found = inl found
found-set (x ∷ xs) (suc i) w zero y found = inl found
found-set (x ∷ xs) (suc i) w (suc j) y found =
    elim (found-set xs i w j y found) [ inl same ↦ inl same | inr other ↦ inr (ap suc other.0, other.1) ]

-- behind others
pub found-drop : {A : Type 0} (n : ℕ) (xs : List A) (j : ℕ) → slice_get (drop n xs) j ≡ slice_get xs (n + j)
found-drop zero xs j = ap (slice_get xs) (omega arith)
found-drop (suc n) [] j = refl
found-drop (suc n) (x ∷ xs) j = let e : suc n + j ≡ suc (n + j) = omega arith in rw e (found-drop n xs j)

-- from the other end
pub found-reverse : {A : Type 0} (xs : List A) (place down : ℕ) (y : A) → place + down + 1 ≡ length xs → slice_get (reverse xs) down ≡ Some y → slice_get xs place ≡ Some y
found-reverse xs place down y fits found =
    let within : down < length xs = omega arith in
    let at : length xs - 1 - down ≡ place = omega arith in
    let there : Some (get_or (reverse xs) down y) ≡ Some y = sym (slice_get-get_or (reverse xs) down y (omega (arith, length-reverse xs))) ∙ found in
    slice_get-get_or xs place y (omega arith)
    ∙ ap (λ n. Some (get_or xs n y)) (sym at)
    ∙ ap (λ z. Some z) (sym (get_or-reverse xs down y within))
    ∙ there
