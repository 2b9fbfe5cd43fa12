-- Arithmetic within DIGITS.
use Rattle.std.specs.Prelude.{ℕ, ℤ, pos, negsuc, ◌+ℤ◌, ◌-ℤ◌, ◌*ℤ◌, int_div, int_rem, unsigned_abs, ◌==◌, ◌&&◌, if◌then◌else◌, Result, Ok, Err}
use Rattle.std.specs.Int.{int_pow}
use Rattle.std.specs.Ordering.{int_cmp}
use Rattle.std.specs.declared.cmp.Ordering.{Ordering}
use Rattle.rx_whole.specs.Digits.{has_at_most}

-- the operators `+`, `-`, `*`, `/`, `%`, `//` and `**`
pub data Operator : Type 0 where
  Add : Operator
  Subtract : Operator
  Multiply : Operator
  Divide : Operator
  Quotient : Operator
  Remainder : Operator
  Power : Operator

-- a result has at most DIGITS digits, or 42 is raised
abbrev pub within : ℕ → ℤ → Result ℤ ℕ
within digits number = if has_at_most digits number then Ok number else Err 42

-- a division by 0 raises 42
abbrev pub divided : ℤ → Result ℤ ℕ → Result ℤ ℕ
divided divisor result = if unsigned_abs divisor == 0 then Err 42 else result

-- `/` where the divisor is not 0: the quotient, or 26 where the division leaves a remainder
abbrev pub exact_quotient : ℤ → ℤ → Result ℤ ℕ
exact_quotient a b = if unsigned_abs (int_rem a b) == 0 then Ok (int_div a b) else Err 26

-- `**`: a negative exponent raises 26; any number to the power 0 is 1
abbrev pub power_of : ℤ → ℤ → ℕ → Result ℤ ℕ
power_of base (pos exponent) digits = within digits (int_pow base exponent)
power_of base (negsuc _) digits = Err 26

-- what an operator gives for two operands of at most DIGITS digits. `int_div` rounds toward zero,
-- and `int_rem` has the sign of the dividend
abbrev pub outcome : Operator → ℤ → ℤ → ℕ → Result ℤ ℕ
outcome Add a b digits = within digits (a +ℤ b)
outcome Subtract a b digits = within digits (a -ℤ b)
outcome Multiply a b digits = within digits (a *ℤ b)
outcome Divide a b digits = divided b (exact_quotient a b)
outcome Quotient a b digits = divided b (within digits (int_div a b))
outcome Remainder a b digits = divided b (within digits (int_rem a b))
outcome Power a b digits = power_of a b digits

-- what an operator gives, or the error that it raises: an operand of more than DIGITS digits
-- raises 42 before anything else is looked at
unfoldable pub apply : Operator → ℤ → ℤ → ℕ → Result ℤ ℕ
apply operator a b digits =
    if has_at_most digits a && has_at_most digits b then outcome operator a b digits else Err 42

-- the order of two numbers, under the same condition
unfoldable pub order_of : ℤ → ℤ → ℕ → Result Ordering ℕ
order_of a b digits =
    if has_at_most digits a && has_at_most digits b then Ok (int_cmp a b) else Err 42
