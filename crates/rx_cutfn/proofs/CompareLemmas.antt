-- The first place where two texts differ, and the first byte of a kind.
use Rattle.std.proofs.Common.{◌≡◌, ℕ, ◌+◌, ◌-◌, ◌<◌, max, Bool, true, false, not, eqb, List, length, drop, get_or, Option, unwrap_or, Ok, Err, Some, refl, sym, ap, ◌∙◌, arith}
use mathlib.Core.Bool.{beq}
use Rattle.std.proofs.lemmas.Bool.{cond-false, eq-eqb, ne_eqb, false≢true}
use Rattle.std.proofs.lemmas.Bool.Decides.{nat_tests}
use Rattle.std.proofs.lemmas.List.{get_or-drop, length-drop}
use Rattle.rx_answers.specs.Answers.{number_answer, at_place}
use Rattle.rx_cutfn.specs.Places.{first_place}
use Rattle.rx_cutfn.specs.Searching.{compare, first_sought, is_in, is_sought, seeks_members, verify}
use Rattle.rx_cutfn.proofs.PlaceLemmas.{first_place_is, first_place_none}

-- ---- COMPARE

differs : List ℕ → List ℕ → ℕ → ℕ → Bool
differs a b pad place = not (eqb (get_or a (place - 1) pad) (get_or b (place - 1) pad))

pub differs_first : (a b : List ℕ) (pad passed : ℕ) → passed < max (length a) (length b) → ((k : ℕ) → k < passed → get_or a k pad ≡ get_or b k pad) → (get_or a passed pad ≡ get_or b passed pad → ⊥) → passed + 1 ≡ compare a b pad
unfolding compare differs
differs_first a b pad passed within same apart =
    let at : passed + 1 - 1 ≡ passed = omega arith in
    sym (first_place_is (differs a b pad) 1 (max (length a) (length b)) (passed + 1) (omega arith) (omega arith)
    (λ j low high. ap not (eq-eqb (get_or a (j - 1) pad) (get_or b (j - 1) pad) (same (j - 1) (omega arith))))
    (ap (λ k. not (eqb (get_or a k pad) (get_or b k pad))) at ∙ ap not (ne_eqb (get_or a passed pad) (get_or b passed pad) apart)))

pub differs_nowhere : (a b : List ℕ) (pad : ℕ) → ((k : ℕ) → k < max (length a) (length b) → get_or a k pad ≡ get_or b k pad) → 0 ≡ compare a b pad
unfolding compare differs
differs_nowhere a b pad same =
    sym (first_place_none (differs a b pad) 1 (max (length a) (length b))
    (λ j low high. ap not (eq-eqb (get_or a (j - 1) pad) (get_or b (j - 1) pad) (same (j - 1) (omega arith)))))

-- ---- VERIFY

-- whether the byte at a place is sought
abbrev sought_at : List ℕ → List ℕ → Bool → ℕ → Bool
sought_at text reference members place = is_sought reference members (get_or text (place - 1) 0)

sought_behind : (text reference behind : List ℕ) (members : Bool) (passed at place : ℕ) → behind ≡ drop passed text → place ≡ passed + at + 1 → sought_at text reference members place ≡ is_sought reference members (get_or behind at 0)
sought_behind text reference behind members passed at place is e =
    let same : place - 1 ≡ passed + at = omega arith in
    ap (λ k. is_sought reference members (get_or text k 0)) same ∙
    ap (is_sought reference members) (sym (get_or-drop passed text at 0) ∙ ap (λ t. get_or t at 0) (sym is))

-- what VERIFY comes to, by the place that was found
verified : (text reference : List ℕ) (option from : Option ℕ) (members : Bool) (passed found : ℕ) → seeks_members option ≡ Some members → unwrap_or from 1 ≡ passed + 1 → first_place (sought_at text reference members) (passed + 1) (length text) ≡ found → Ok found ≡ number_answer (verify text reference option from)
unfolding verify
verified text reference option from members passed found option_is from_is place_is =
    sym (ap (λ s. number_answer (first_sought text reference (unwrap_or from 1) s)) option_is ∙
    ap (λ p. number_answer (first_sought text reference p (Some members))) from_is ∙
    ap number_answer (cond-false (eqb (passed + 1) 0) (Err 40) (Ok (first_place (sought_at text reference members) (passed + 1) (length text))) (ne_eqb (passed + 1) 0 (λ none. omega arith))) ∙
    ap (λ k. Ok k) place_is)

pub passed_before : (place passed : ℕ) → Ok passed ≡ number_answer (at_place place (Ok (place - 1))) → place ≡ passed + 1
passed_before place passed e = grind (arith, nat_tests)

pub sought_where_equal : (reference : List ℕ) (members told : Bool) (byte : ℕ) → told ≡ is_in reference byte → beq told members ≡ true → is_sought reference members byte ≡ true
sought_where_equal reference true true byte is e = sym is
sought_where_equal reference true false byte is e = absurd (false≢true e)
sought_where_equal reference false true byte is e = absurd (false≢true e)
sought_where_equal reference false false byte is e = ap not (sym is)

-- the first sought byte behind those that are passed over, where the ones between aren't sought
pub sought_first : (text reference behind : List ℕ) (option from : Option ℕ) (members : Bool) (passed at : ℕ) → behind ≡ drop passed text → at < length behind → ((k : ℕ) → k < at → is_sought reference members (get_or behind k 0) ≡ false) → is_sought reference members (get_or behind at 0) ≡ true → seeks_members option ≡ Some members → unwrap_or from 1 ≡ passed + 1 → Ok (passed + at + 1) ≡ number_answer (verify text reference option from)
sought_first text reference behind option from members passed at is within fails holds option_is from_is =
    verified text reference option from members passed (passed + at + 1) option_is from_is
    (first_place_is (sought_at text reference members) (passed + 1) (length text) (passed + at + 1) (omega arith) (omega (arith, length-drop passed text, ap length is))
    (λ j low high.
    sought_behind text reference behind members passed (j - 1 - passed) j is (omega arith) ∙ fails (j - 1 - passed) (omega arith))
    (sought_behind text reference behind members passed at (passed + at + 1) is refl ∙ holds))

pub sought_nowhere : (text reference behind : List ℕ) (option from : Option ℕ) (members : Bool) (passed : ℕ) → behind ≡ drop passed text → ((k : ℕ) → k < length behind → is_sought reference members (get_or behind k 0) ≡ false) → seeks_members option ≡ Some members → unwrap_or from 1 ≡ passed + 1 → Ok 0 ≡ number_answer (verify text reference option from)
sought_nowhere text reference behind option from members passed is fails option_is from_is =
    verified text reference option from members passed 0 option_is from_is
    (first_place_none (sought_at text reference members) (passed + 1) (length text)
    (λ j low high.
    sought_behind text reference behind members passed (j - 1 - passed) j is (omega arith) ∙
    fails (j - 1 - passed) (omega (arith, length-drop passed text, ap length is))))
