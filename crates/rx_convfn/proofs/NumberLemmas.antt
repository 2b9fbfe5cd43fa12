-- Numbers that are read digit by digit, and counted as far as a number goes.
use Rattle.std.proofs.Common.{inl, inr, ◌≡◌, ◌<◌, ◌≤◌, ℕ, ◌+◌, ◌-◌, ◌*◌, ◌^◌, min, List, [], ◌∷◌, length, get_or, take, drop, sym, ap, ◌∙◌, arith}
use Rattle.std.specs.Prelude.{fold}
use Rattle.std.proofs.Math.Nat.{mul-le-mul_left}
use Rattle.std.proofs.lemmas.Bool.{cases_lt, le-ltb}
use Rattle.rx_whole.proofs.DigitsLemmas.{ten_to_at_most}
use Rattle.rx_convfn.specs.Digits.{within_digits}
use Rattle.rx_convfn.proofs.DigitLemmas.{rest-first}

abbrev pub greatest : ℕ
greatest = 2 ^ 64 - 1

-- the number of some values behind one that was begun
abbrev pub number_on : ℕ → ℕ → List ℕ → ℕ
number_on base begun values = fold (λ number value. number * base + value) begun values

grows : (a base : ℕ) → 1 ≤ base → a ≤ a * base
grows a base some = omega (arith, mul-le-mul_left a some)

step_same : (base a b value : ℕ) → 1 ≤ base → min a greatest ≡ min b greatest → min (a * base + value) greatest ≡ min (b * base + value) greatest
step_same base a b value some e = elim (cases_lt a greatest) [
  | inl below ↦ let same : a ≡ b = omega arith in ap (λ (n : ℕ). min (n * base + value) greatest) same
  | inr above ↦
      let other : greatest ≤ b = omega arith in
      let long_a : a ≤ a * base = grows a base some in
      let long_b : b ≤ b * base = grows b base some in
      omega arith
]

-- numbers that are the same as far as a number goes stay so
pub number_on-same : (base a b : ℕ) (values : List ℕ) → 1 ≤ base → min a greatest ≡ min b greatest → min (number_on base a values) greatest ≡ min (number_on base b values) greatest
number_on-same base a b [] some e = e
number_on-same base a b (value ∷ values) some e =
    number_on-same base (a * base + value) (b * base + value) values some (step_same base a b value some e)

-- one digit more, counted as far as a number goes
pub number_on-more : (base begun value next : ℕ) (values : List ℕ) → 1 ≤ base → next ≡ min (begun * base + value) greatest → min (number_on base next values) greatest ≡ min (number_on base begun (value ∷ values)) greatest
number_on-more base begun value next values some e =
    number_on-same base next (begun * base + value) values some (omega arith)

-- what a number comes to is seen from it as far as a number goes
pub within_digits-same : (count number counted : ℕ) → count ≤ 18 → counted ≡ min number greatest → within_digits count counted ≡ within_digits count number
within_digits-same count number counted few e =
    let bound = ten_to_at_most count few in
    elim (cases_lt number (10 ^ count)) [
      | inl below ↦ let same : counted ≡ number = omega arith in ap (λ (n : ℕ). within_digits count n) same
      | inr above ↦
          let beyond : 10 ^ count ≤ counted = omega arith in
          rw (le-ltb number (10 ^ count) above, le-ltb counted (10 ^ count) beyond)
    ]

-- ---- numbers over what is left of a list

pub number_on-rest : (base number next : ℕ) (rest : List ℕ) → 1 ≤ base → 1 ≤ length rest → next ≡ min (number * base + get_or rest 0 0) greatest → min (number_on base next (take (length rest - 1) (drop 1 rest))) greatest ≡ min (number_on base number rest) greatest
number_on-rest base number next rest some long e =
    number_on-more base number (get_or rest 0 0) next (take (length rest - 1) (drop 1 rest)) some e ∙
    ap (λ (t : List ℕ). min (number_on base number t) greatest) (sym (rest-first rest long))

pub number_on-end : (base number total : ℕ) (rest : List ℕ) → length rest < 1 → number ≤ greatest → min (number_on base number rest) greatest ≡ min total greatest → number ≡ min total greatest
number_on-end base number total [] h small e = omega arith
number_on-end base number total (value ∷ rest) h small e = absurd (omega arith)
