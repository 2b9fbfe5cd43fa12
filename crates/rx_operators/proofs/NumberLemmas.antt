-- What reading two texts tells of their numbers.
use Rattle.std.proofs.Common.{◌≡◌, ℕ, ℤ, pos, ◌≤◌, ◌^◌, ◌&&◌, Bool, true, false, if◌then◌else◌, unsigned_abs, Option, Some, None, Ok, Err, refl, ap, sym, ◌∙◌, arith}
use Rattle.std.proofs.lemmas.Bool.{le-ltb, ltb-false}
use Rattle.std.specs.declared.cmp.Ordering.{Ordering}
use Rattle.rx_whole.proofs.DigitsLemmas.{ten_to_at_most}
use Rattle.rx_whole.specs.Arithmetic.{Operator, apply, outcome, order_of}
use Rattle.rx_whole.specs.Digits.{has_at_most}
use Rattle.rx_whole.specs.Numeral.{numeral_of}
use Rattle.rx_whole.specs.declared.reading.Numeral.TheVariants.{Whole}
use Rattle.rx_operators.specs.Numbers.{pair_of}
use Rattle.rx_operators.specs.Operators.{calculated, order_by}
use Rattle.rx_operators.specs.declared.arithmetic.Operands.TheVariants.{Both, Long, NotBoth}

-- a number of more than 18 digits has more than DIGITS
short : (n : ℤ) (digits : ℕ) → digits ≤ 18 → has_at_most 18 n ≡ false → has_at_most digits n ≡ false
short n digits few h =
    let past = ltb-false (unsigned_abs n) (10 ^ 18) h in
    let at_most = ten_to_at_most digits few in
    le-ltb (unsigned_abs n) (10 ^ digits) (omega arith)

is_long : (b : Bool) (m n : ℤ) → Long ≡ (if b then Both m n else Long) → b ≡ false
is_long true m n e = cc
is_long false m n e = refl

one_long : (a b c d : Bool) → (a ≡ false → c ≡ false) → (b ≡ false → d ≡ false) → (a && b) ≡ false → (c && d) ≡ false
one_long true true c d first second h = cc
one_long true false true d first second h = second refl
one_long true false false d first second h = refl
one_long false b c d first second h = ap (λ x. x && d) (first refl)

not_within : (m n : ℤ) (digits : ℕ) → digits ≤ 18 → Long ≡ pair_of (Some m) (Some n) → (has_at_most digits m && has_at_most digits n) ≡ false
not_within m n digits few e =
    one_long (has_at_most 18 m) (has_at_most 18 n) (has_at_most digits m) (has_at_most digits n) (short m digits few) (short n digits few) (is_long (has_at_most 18 m && has_at_most 18 n) m n e)

pub long_calculated : (operator : Operator) (m n : Option ℤ) (digits : ℕ) → digits ≤ 18 → Long ≡ pair_of m n → Err 42 ≡ calculated operator m n digits
unfolding apply
long_calculated operator None n digits few e = cc
long_calculated operator (Some m) None digits few e = cc
long_calculated operator (Some m) (Some n) digits few e =
    sym (ap (λ both. if both then outcome operator m n digits else Err 42) (not_within m n digits few e))

is_none : (b : Bool) (m n : ℤ) → NotBoth ≡ (if b then Both m n else Long) → ⊥
is_none true m n e = cc
is_none false m n e = cc

pub none_calculated : (operator : Operator) (m n : Option ℤ) (digits : ℕ) → NotBoth ≡ pair_of m n → Err 41 ≡ calculated operator m n digits
none_calculated operator None n digits e = refl
none_calculated operator (Some m) None digits e = refl
none_calculated operator (Some m) (Some n) digits e = absurd (is_none (has_at_most 18 m && has_at_most 18 n) m n e)

are_both : (b : Bool) (m n x y : ℤ) → Both x y ≡ (if b then Both m n else Long) → (m ≡ x) × (n ≡ y)
are_both true m n x y e = (cc, cc)
are_both false m n x y e = (cc, cc)

pub both_calculated : (operator : Operator) (m n : Option ℤ) (digits : ℕ) (x y : ℤ) → Both x y ≡ pair_of m n → apply operator x y digits ≡ calculated operator m n digits
both_calculated operator None n digits x y e = cc
both_calculated operator (Some m) None digits x y e = cc
both_calculated operator (Some m) (Some n) digits x y e =
    let h = are_both (has_at_most 18 m && has_at_most 18 n) m n x y e in
    ap (λ a. apply operator a y digits) (sym h.0) ∙ ap (λ b. apply operator m b digits) (sym h.1)

pub long_order : (m n : Option ℤ) (order : Ordering) (digits : ℕ) → digits ≤ 18 → Long ≡ pair_of m n → Err 42 ≡ order_by m n order digits
unfolding order_of
long_order None n order digits few e = cc
long_order (Some m) None order digits few e = cc
long_order (Some m) (Some n) order digits few e = rw (not_within m n digits few e) refl

pub none_order : (m n : Option ℤ) (order : Ordering) (digits : ℕ) → NotBoth ≡ pair_of m n → Ok order ≡ order_by m n order digits
none_order None n order digits e = refl
none_order (Some m) None order digits e = refl
none_order (Some m) (Some n) order digits e = absurd (is_none (has_at_most 18 m && has_at_most 18 n) m n e)

pub both_order : (m n : Option ℤ) (order : Ordering) (digits : ℕ) (x y : ℤ) → Both x y ≡ pair_of m n → order_of x y digits ≡ order_by m n order digits
both_order None n order digits x y e = cc
both_order (Some m) None order digits x y e = cc
both_order (Some m) (Some n) order digits x y e =
    let h = are_both (has_at_most 18 m && has_at_most 18 n) m n x y e in
    ap (λ a. order_of a y digits) (sym h.0) ∙ ap (λ b. order_of m b digits) (sym h.1)

pub zero_long : Whole (pos 0) ≡ numeral_of (Some (pos 0))
zero_long = refl
