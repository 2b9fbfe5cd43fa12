-- What `apply` and `order_of` give in the cases that the code tells apart.
use Rattle.std.proofs.Common.{sym, nat_lt, int_lt, Option, Some, None, ◌≤ℤ◌, ◌<ℤ◌, lit<, FitsSigned, ◌*ℤ◌, ◌≡◌, ℕ, ◌^◌, ◌<◌, ◌≤◌, ◌%◌, ◌&&◌, ℤ, pos, negsuc, neg_ℤ, Bool, true, false, not, Result, Ok, Err, if◌then◌else◌, ◌==◌, unsigned_abs, int_div, int_rem, refl, ap, ◌∙◌, arith, suc, zero}
use Rattle.std.proofs.Math.Nat.{mod-le, div-le_self}
use Rattle.std.proofs.lemmas.Bool.{ltb-true, le-ltb}
use Rattle.std.proofs.lemmas.Int.{ints, to_z-of_z, fits_signed_mul}
use Rattle.std.specs.Int.{w128, int_pow}
use Rattle.std.specs.Ordering.{int_cmp}
use Rattle.rx_whole.specs.Digits.{has_at_most, below}
use Rattle.rx_text.proofs.BoolLemmas.{and_first, and_second}
use Rattle.rx_whole.proofs.DigitsLemmas.{has_at_most-yes}
use Rattle.rx_whole.specs.Number.{with_sign}
use Rattle.rx_whole.specs.Arithmetic.{Operator, Quotient, Remainder, Power, apply, outcome, order_of, within}

pub apply-refused : (operator : Operator) (a b : ℤ) (digits : ℕ) → (has_at_most digits a && has_at_most digits b) ≡ false → apply operator a b digits ≡ Err 42
unfolding apply
apply-refused operator a b digits h = rw h

pub apply-taken : (operator : Operator) (a b : ℤ) (digits : ℕ) → (has_at_most digits a && has_at_most digits b) ≡ true → apply operator a b digits ≡ outcome operator a b digits
unfolding apply
apply-taken operator a b digits h = rw h

pub order_of-refused : (a b : ℤ) (digits : ℕ) → (has_at_most digits a && has_at_most digits b) ≡ false → order_of a b digits ≡ Err 42
unfolding order_of
order_of-refused a b digits h = rw h

pub order_of-taken : (a b : ℤ) (digits : ℕ) → (has_at_most digits a && has_at_most digits b) ≡ true → order_of a b digits ≡ Ok (int_cmp a b)
unfolding order_of
order_of-taken a b digits h = rw h

-- ---- magnitudes

unsigned_abs-neg : (n : ℕ) → unsigned_abs (neg_ℤ (pos n)) ≡ n
unsigned_abs-neg zero = refl
unsigned_abs-neg (suc n) = refl

pub unsigned_abs-int_div : (a b : ℤ) → unsigned_abs (int_div a b) ≤ unsigned_abs a
unsigned_abs-int_div (pos a) (pos b) = div-le_self a b
unsigned_abs-int_div (pos a) (negsuc b) = rw unsigned_abs-neg (div-le_self a (suc b))
unsigned_abs-int_div (negsuc a) (pos b) = rw unsigned_abs-neg (div-le_self (suc a) b)
unsigned_abs-int_div (negsuc a) (negsuc b) = div-le_self (suc a) (suc b)

pub unsigned_abs-int_rem : (a b : ℤ) → unsigned_abs (int_rem a b) ≤ unsigned_abs a
unsigned_abs-int_rem (pos a) b = mod-le a (unsigned_abs b)
unsigned_abs-int_rem (negsuc a) b = rw unsigned_abs-neg (mod-le (suc a) (unsigned_abs b))

not_true : (p : Bool) → not p ≡ true → p ≡ false
not_true true h = sym h
not_true false h = refl

-- the operands are short, and the divisor is not 0
abbrev CanDivide : ℤ → ℤ → ℕ → Type 0
CanDivide a b digits = ((has_at_most digits a && has_at_most digits b) && not (unsigned_abs b == 0)) ≡ true

pub apply-quotient : (a b : ℤ) (digits : ℕ) → CanDivide a b digits → apply Quotient a b digits ≡ Ok (int_div a b)
apply-quotient a b digits h =
    let both = and_first (has_at_most digits a && has_at_most digits b) (not (unsigned_abs b == 0)) h in
    let nonzero = not_true (unsigned_abs b == 0) (and_second (has_at_most digits a && has_at_most digits b) (not (unsigned_abs b == 0)) h) in
    let dividend = ltb-true (unsigned_abs a) (10 ^ digits) (and_first (has_at_most digits a) (has_at_most digits b) both) in
    let short = has_at_most-yes digits (int_div a b) (omega (arith, unsigned_abs-int_div a b)) in
    apply-taken Quotient a b digits both ∙ rw (nonzero, short)

pub apply-remainder : (a b : ℤ) (digits : ℕ) → CanDivide a b digits → apply Remainder a b digits ≡ Ok (int_rem a b)
apply-remainder a b digits h =
    let both = and_first (has_at_most digits a && has_at_most digits b) (not (unsigned_abs b == 0)) h in
    let nonzero = not_true (unsigned_abs b == 0) (and_second (has_at_most digits a && has_at_most digits b) (not (unsigned_abs b == 0)) h) in
    let dividend = ltb-true (unsigned_abs a) (10 ^ digits) (and_first (has_at_most digits a) (has_at_most digits b) both) in
    let short = has_at_most-yes digits (int_rem a b) (omega (arith, unsigned_abs-int_rem a b)) in
    apply-taken Remainder a b digits both ∙ rw (nonzero, short)

pub product_fits : (a b : ℤ) → unsigned_abs a < 10 ^ 18 → unsigned_abs b < 10 ^ 18 → FitsSigned w128 (a *ℤ b)
product_fits a b left right = fits_signed_mul w128 a b (10 ^ 18) (10 ^ 18) (omega arith) (omega arith) (lit< tt)

-- ---- the power

-- whether a power is negative
abbrev pub power_is_negative : ℤ → ℕ → Bool
power_is_negative base exponent = int_lt base (pos 0) && not (exponent % 2 == 0)

-- a power by its magnitude, if that is below the limit, and its sign
abbrev pub signed_power : Option ℕ → Bool → Result ℤ ℕ
signed_power None is_negative = Err 42
signed_power (Some magnitude) is_negative = Ok (with_sign is_negative magnitude)

int_pow_by_sign : (base : ℤ) (exponent : ℕ) → int_pow base exponent ≡ (if power_is_negative base exponent then neg_ℤ (pos (unsigned_abs base ^ exponent)) else pos (unsigned_abs base ^ exponent))
int_pow_by_sign (pos base) exponent = rw (le-ltb base 0 (omega arith))
int_pow_by_sign (negsuc base) exponent = by_parity (exponent % 2 == 0) where
  by_parity : (even : Bool) → (if even then pos (suc base ^ exponent) else neg_ℤ (pos (suc base ^ exponent))) ≡ (if not even then neg_ℤ (pos (suc base ^ exponent)) else pos (suc base ^ exponent))
  by_parity true = refl
  by_parity false = refl

pub unsigned_abs-signed : (is_negative : Bool) (magnitude : ℕ) → unsigned_abs (with_sign is_negative magnitude) ≡ magnitude
unsigned_abs-signed true magnitude = unsigned_abs-neg magnitude
unsigned_abs-signed false magnitude = refl

within-signed : (digits magnitude : ℕ) (is_negative : Bool) → within digits (with_sign is_negative magnitude) ≡ signed_power (below (10 ^ digits) magnitude) is_negative
within-signed digits magnitude is_negative =
    ap by_magnitude (unsigned_abs-signed is_negative magnitude) ∙ by_test (nat_lt magnitude (10 ^ digits)) where
      number : ℤ
      number = with_sign is_negative magnitude

      by_magnitude : ℕ → Result ℤ ℕ
      by_magnitude m = if nat_lt m (10 ^ digits) then Ok number else Err 42

      by_test : (test : Bool) → (let result : Result ℤ ℕ = if test then Ok number else Err 42 in result) ≡ signed_power (if test then Some magnitude else None) is_negative
      by_test true = refl
      by_test false = refl

pub apply-power : (a b : ℤ) (digits : ℕ) → (has_at_most digits a && has_at_most digits b) ≡ true → pos 0 ≤ℤ b → apply Power a b digits ≡ signed_power (below (10 ^ digits) (unsigned_abs a ^ unsigned_abs b)) (power_is_negative a (unsigned_abs b))
apply-power a (pos exponent) digits both h =
    apply-taken Power a (pos exponent) digits both ∙
    ap (within digits) (int_pow_by_sign a exponent) ∙
    within-signed digits (unsigned_abs a ^ exponent) (power_is_negative a exponent)
apply-power a (negsuc b) digits both h = absurd h.le

pub apply-power-negative : (a b : ℤ) (digits : ℕ) → (has_at_most digits a && has_at_most digits b) ≡ true → b <ℤ pos 0 → apply Power a b digits ≡ Err 26
apply-power-negative a (pos exponent) digits both h = absurd (omega (arith, ints))
apply-power-negative a (negsuc b) digits both h = apply-taken Power a (negsuc b) digits both

-- ---- for the functions that answer `apply` and `order_of`

pub ruleset answers = (to_z-of_z, apply-refused, apply-taken, order_of-refused, order_of-taken)

pub ruleset division_answers = (to_z-of_z, apply-refused, apply-taken, apply-quotient, apply-remainder)

pub ruleset power_answers = (to_z-of_z, apply-refused, apply-power, apply-power-negative)
