-- The first and the last place where a test holds, and where a needle stands.
use Rattle.std.proofs.Common.{◌≡◌, ℕ, zero, suc, ◌+◌, ◌-◌, ◌<◌, ◌≤◌, Bool, true, false, List, [], ◌∷◌, ◌++◌, length, take, drop, reverse, None, Some, find, unwrap_or, nat_eq, refl, sym, ap, ◌∙◌, arith, inl, inr}
use Rattle.std.proofs.lemmas.Bool.{cases_eq, cond-true, cond-false, false_from_ne_true, true≢false}
use Rattle.std.proofs.lemmas.List.{drop-drop, length-drop, length-take, reverse-append}
use Rattle.std.proofs.lemmas.Slice.Eq.{bytes_eq-Decides}
use Rattle.std.specs.List.{range_with_len}
use Rattle.memchr.specs.Find.{OccursAt, FindsNeedle, FindsLastNeedle}
use Rattle.memchr.proofs.lemmas.MatchLemmas.{OccursAt-part, OccursAt-from_part}
use Rattle.rx_cutfn.specs.Places.{first_place, last_place, begins_with, stands_at}

-- ---- in a row of places

find_first : (test : ℕ → Bool) (a n k : ℕ) → a ≤ k → k < a + n → ((j : ℕ) → a ≤ j → j < k → test j ≡ false) → test k ≡ true → find test (range_with_len a n) ≡ Some k
find_first test a zero k low high fails holds = absurd (omega arith)
find_first test a (suc n) k low high fails holds = elim (cases_eq a k) [
  | inl same ↦ cond-true (test a) (Some a) (find test (range_with_len (a + 1) n)) (ap test same ∙ holds) ∙ ap (λ p. Some p) same
  | inr other ↦
      cond-false (test a) (Some a) (find test (range_with_len (a + 1) n)) (fails a (omega arith) (omega arith)) ∙
      find_first test (a + 1) n k (omega arith) (omega arith) (λ j above below. fails j (omega arith) below) holds
]

find_none : (test : ℕ → Bool) (a n : ℕ) → ((j : ℕ) → a ≤ j → j < a + n → test j ≡ false) → find test (range_with_len a n) ≡ None
find_none test a zero fails = refl
find_none test a (suc n) fails =
    cond-false (test a) (Some a) (find test (range_with_len (a + 1) n)) (fails a (omega arith) (omega arith)) ∙
    find_none test (a + 1) n (λ j above below. fails j (omega arith) (omega arith))

range_push : (a n : ℕ) → range_with_len a (suc n) ≡ range_with_len a n ++ (a + n) ∷ []
range_push a zero = let same : a ≡ a + 0 = omega arith in ap (λ p. p ∷ []) same
range_push a (suc n) =
    let same : a + 1 + n ≡ a + suc n = omega arith in
    ap (λ ps. a ∷ ps) (range_push (a + 1) n ∙ ap (λ p. range_with_len (a + 1) n ++ p ∷ []) same)

range_reversed : (a n : ℕ) → reverse (range_with_len a (suc n)) ≡ (a + n) ∷ reverse (range_with_len a n)
range_reversed a n = ap reverse (range_push a n) ∙ reverse-append (range_with_len a n) ((a + n) ∷ [])

find_last : (test : ℕ → Bool) (a n k : ℕ) → a ≤ k → k < a + n → ((j : ℕ) → k < j → j < a + n → test j ≡ false) → test k ≡ true → find test (reverse (range_with_len a n)) ≡ Some k
find_last test a zero k low high fails holds = absurd (omega arith)
find_last test a (suc n) k low high fails holds =
    ap (find test) (range_reversed a n) ∙
    elim (cases_eq (a + n) k) [
      | inl same ↦ cond-true (test (a + n)) (Some (a + n)) (find test (reverse (range_with_len a n))) (ap test same ∙ holds) ∙ ap (λ p. Some p) same
      | inr other ↦
          cond-false (test (a + n)) (Some (a + n)) (find test (reverse (range_with_len a n))) (fails (a + n) (omega arith) (omega arith)) ∙
          find_last test a n k low (omega arith) (λ j above below. fails j above (omega arith)) holds
    ]

find_no_last : (test : ℕ → Bool) (a n : ℕ) → ((j : ℕ) → a ≤ j → j < a + n → test j ≡ false) → find test (reverse (range_with_len a n)) ≡ None
find_no_last test a zero fails = refl
find_no_last test a (suc n) fails =
    ap (find test) (range_reversed a n) ∙
    cond-false (test (a + n)) (Some (a + n)) (find test (reverse (range_with_len a n))) (fails (a + n) (omega arith) (omega arith)) ∙
    find_no_last test a n (λ j above below. fails j above (omega arith))

-- ---- the first place, and the last

pub first_place_is : (test : ℕ → Bool) (from last k : ℕ) → from ≤ k → k ≤ last → ((j : ℕ) → from ≤ j → j < k → test j ≡ false) → test k ≡ true → first_place test from last ≡ k
first_place_is test from last k low high fails holds =
    ap (λ found. unwrap_or found 0) (find_first test from (last + 1 - from) k low (omega arith) fails holds)

pub first_place_none : (test : ℕ → Bool) (from last : ℕ) → ((j : ℕ) → from ≤ j → j ≤ last → test j ≡ false) → first_place test from last ≡ 0
first_place_none test from last fails =
    ap (λ found. unwrap_or found 0) (find_none test from (last + 1 - from) (λ j low high. fails j low (omega arith)))

pub last_place_is : (test : ℕ → Bool) (last k : ℕ) → 1 ≤ k → k ≤ last → ((j : ℕ) → k < j → j ≤ last → test j ≡ false) → test k ≡ true → last_place test last ≡ k
last_place_is test last k low high fails holds =
    ap (λ found. unwrap_or found 0) (find_last test 1 last k low (omega arith) (λ j above below. fails j above (omega arith)) holds)

pub last_place_none : (test : ℕ → Bool) (last : ℕ) → ((j : ℕ) → 1 ≤ j → j ≤ last → test j ≡ false) → last_place test last ≡ 0
last_place_none test last fails =
    ap (λ found. unwrap_or found 0) (find_no_last test 1 last (λ j low high. fails j low (omega arith)))

-- ---- where a needle stands

-- a test for the empty needle that failed
pub some_bytes : (needle : List ℕ) → false ≡ nat_eq (length needle) 0 → 0 < length needle
some_bytes [] none = absurd (true≢false (sym none))
some_bytes (byte ∷ rest) none = omega arith

pub begins_with_true : (text needle : List ℕ) (at : ℕ) → OccursAt text needle at → begins_with (drop at text) needle ≡ true
begins_with_true text needle at occurs = (bytes_eq-Decides (take (length needle) (drop at text)) needle).1 (OccursAt-part text needle at occurs)

occurs_where_it_begins : (text needle : List ℕ) (at : ℕ) → 0 < length needle → begins_with (drop at text) needle ≡ true → OccursAt text needle at
occurs_where_it_begins text needle at some begins =
    let part = (bytes_eq-Decides (take (length needle) (drop at text)) needle).0 begins in
    let fits : at + length needle ≤ length text = omega (arith, ap length part, length-take (length needle) (drop at text), length-drop at text) in
    OccursAt-from_part text needle at fits part

pub begins_with_false : (text needle : List ℕ) (at : ℕ) → 0 < length needle → (OccursAt text needle at → ⊥) → begins_with (drop at text) needle ≡ false
begins_with_false text needle at some apart =
    false_from_ne_true (begins_with (drop at text) needle) (λ begins. apart (occurs_where_it_begins text needle at some begins))

-- the same of a place in a text of which the front is passed over
stands_behind : (text needle : List ℕ) (passed at place : ℕ) → place ≡ passed + at + 1 → stands_at needle text place ≡ begins_with (drop at (drop passed text)) needle
stands_behind text needle passed at place e =
    let same : place - 1 ≡ passed + at = omega arith in
    ap (λ n. begins_with (drop n text) needle) same ∙ ap (λ t. begins_with t needle) (sym (drop-drop at passed text))

pub place_found : (text needle : List ℕ) (passed at : ℕ) → 0 < length needle → FindsNeedle (drop passed text) needle 0 (Some at) → first_place (stands_at needle text) (passed + 1) (length text) ≡ passed + at + 1
place_found text needle passed at some found =
    let behind = drop passed text in
    let fits = found.1.fits in
    let within : passed + at + 1 ≤ length text = omega (arith, length-drop passed text) in
    first_place_is (stands_at needle text) (passed + 1) (length text) (passed + at + 1) (omega arith) within
    (λ j low high.
    stands_behind text needle passed (j - 1 - passed) j (omega arith) ∙
    begins_with_false behind needle (j - 1 - passed) some (found.0.before (j - 1 - passed) (omega arith) (omega arith)))
    (stands_behind text needle passed at (passed + at + 1) refl ∙ begins_with_true behind needle at found.1)

pub place_not_found : (text needle : List ℕ) (passed : ℕ) → 0 < length needle → FindsNeedle (drop passed text) needle 0 None → first_place (stands_at needle text) (passed + 1) (length text) ≡ 0
place_not_found text needle passed some found =
    let behind = drop passed text in
    first_place_none (stands_at needle text) (passed + 1) (length text)
    (λ j low high.
    stands_behind text needle passed (j - 1 - passed) j (omega arith) ∙
    begins_with_false behind needle (j - 1 - passed) some (found (j - 1 - passed) (omega arith) (omega (arith, length-drop passed text))))

pub last_place_found : (text needle : List ℕ) (at : ℕ) → 0 < length needle → FindsLastNeedle text needle (Some at) → last_place (stands_at needle text) (length text) ≡ at + 1
last_place_found text needle at some found =
    let fits = found.1.fits in
    last_place_is (stands_at needle text) (length text) (at + 1) (omega arith) (omega arith)
    (λ j above high.
    stands_behind text needle 0 (j - 1) j (omega arith) ∙
    begins_with_false text needle (j - 1) some (found.0.after (j - 1) (omega arith) (omega arith)))
    (stands_behind text needle 0 at (at + 1) (omega arith) ∙ begins_with_true text needle at found.1)

pub last_place_not_found : (text needle : List ℕ) → 0 < length needle → FindsLastNeedle text needle None → last_place (stands_at needle text) (length text) ≡ 0
last_place_not_found text needle some found =
    last_place_none (stands_at needle text) (length text)
    (λ j low high.
    stands_behind text needle 0 (j - 1) j (omega arith) ∙
    begins_with_false text needle (j - 1) some (found (j - 1) (omega arith) (omega arith)))
