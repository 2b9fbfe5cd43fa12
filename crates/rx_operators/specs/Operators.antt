-- What operators give between two strings, and in front of one. `digits` is DIGITS.
use Rattle.std.specs.Prelude.{ℕ, ℤ, pos, Bool, true, false, not, ◌&&◌, ◌||◌, if◌then◌else◌, List, [], ◌∷◌, ◌++◌, codes, Option, Some, None, Result, Ok, Err}
use Rattle.std.specs.Str.{bytes_eq}
use Rattle.std.specs.declared.cmp.Ordering.{Ordering}
use Rattle.std.specs.declared.cmp.Ordering.TheVariants as x
use Rattle.rx_answers.specs.Answers.{within_limit}
use Rattle.rx_text.specs.Order.{padded_order, strict_order}
use Rattle.rx_whole.specs.Arithmetic.{Operator, Add, Subtract, Multiply, Divide, Quotient, Remainder, Power, apply, order_of}
use Rattle.rx_whole.specs.Number.{num, text_of}
use Rattle.rx_tree.specs.declared.token.Oper.{Oper}
use Rattle.rx_tree.specs.declared.token.Oper.TheVariants as o
use Rattle.rx_operators.specs.declared.family.Family.{Family}
use Rattle.rx_operators.specs.declared.family.Family.TheVariants as f
use Rattle.rx_operators.specs.declared.family.Arithmetic.{Arithmetic}
use Rattle.rx_operators.specs.declared.family.Arithmetic.TheVariants as a
use Rattle.rx_operators.specs.declared.family.Comparison.{Comparison}
use Rattle.rx_operators.specs.declared.family.Comparison.TheVariants as c
use Rattle.rx_operators.specs.declared.family.Connective.{Connective}
use Rattle.rx_operators.specs.declared.family.Connective.TheVariants as l
use Rattle.rx_operators.specs.Families.{family}

-- ---- arithmetic

-- the operator on numbers
abbrev pub operator_of : Arithmetic → Operator
operator_of a.Add = Add
operator_of a.Subtract = Subtract
operator_of a.Multiply = Multiply
operator_of a.Divide = Divide
operator_of a.Quotient = Quotient
operator_of a.Remainder = Remainder
operator_of a.Power = Power

-- both operands have to be numbers: else 41 is raised, before anything is said of their digits
abbrev pub calculated : Operator → Option ℤ → Option ℤ → ℕ → Result ℤ ℕ
calculated operator (Some m) (Some n) digits = apply operator m n digits
calculated operator (Some m) None digits = Err 41
calculated operator None n digits = Err 41

-- the text of the number
abbrev pub in_digits : Result ℤ ℕ → Result (List ℕ) ℕ
in_digits (Ok number) = Ok (text_of number)
in_digits (Err error) = Err error

-- ---- comparisons

-- the order of two texts: by their numbers where both are numbers, else without outer blanks and padded
abbrev pub order_by : Option ℤ → Option ℤ → Ordering → ℕ → Result Ordering ℕ
order_by (Some m) (Some n) order digits = order_of m n digits
order_by (Some m) None order digits = Ok order
order_by None n order digits = Ok order

abbrev pub order : List ℕ → List ℕ → ℕ → Result Ordering ℕ
order a b digits = order_by (num a) (num b) (padded_order a b) digits

abbrev pub is_less : Ordering → Bool
is_less x.Less = true
is_less _ = false

abbrev pub is_equal : Ordering → Bool
is_equal x.Equal = true
is_equal _ = false

abbrev pub is_greater : Ordering → Bool
is_greater x.Greater = true
is_greater _ = false

-- whether a comparison holds of two operands that stand in an order
abbrev pub holds : Comparison → Ordering → Bool
holds c.Equal order = is_equal order
holds c.NotEqual order = not (is_equal order)
holds c.Greater order = is_greater order
holds c.Less order = is_less order
holds c.GreaterOrEqual order = not (is_less order)
holds c.LessOrEqual order = not (is_greater order)

-- a logical value as a text
abbrev pub truth : Bool → List ℕ
truth is = if is then codes "1" else codes "0"

abbrev pub compared : Comparison → Result Ordering ℕ → Result (List ℕ) ℕ
compared comparison (Ok order) = Ok (truth (holds comparison order))
compared comparison (Err error) = Err error

-- ---- logical values

-- the logical value that a text is: 34 is raised where it is neither `0` nor `1`
abbrev pub logical : List ℕ → Result Bool ℕ
logical text =
    if bytes_eq text (codes "1") then Ok true
    else if bytes_eq text (codes "0") then Ok false
    else Err 34

abbrev pub differ : Bool → Bool → Bool
differ true b = not b
differ false b = b

abbrev pub connected : Connective → Bool → Bool → Bool
connected l.And a b = a && b
connected l.Or a b = a || b
connected l.ExclusiveOr a b = differ a b

-- both operands have to be logical values
abbrev pub logic : Connective → Result Bool ℕ → Result Bool ℕ → Result Bool ℕ
logic connective (Ok a) (Ok b) = Ok (connected connective a b)
logic connective (Ok a) (Err error) = Err error
logic connective (Err error) b = Err error

abbrev pub negated : Result Bool ℕ → Result Bool ℕ
negated (Ok a) = Ok (not a)
negated (Err error) = Err error

abbrev pub truth_of : Result Bool ℕ → Result (List ℕ) ℕ
truth_of (Ok is) = Ok (truth is)
truth_of (Err error) = Err error

-- ---- joins

-- two texts with something between them; one that is too long raises 5
abbrev pub joined : List ℕ → List ℕ → List ℕ → Result (List ℕ) ℕ
joined a between b = within_limit (a ++ between ++ b)

-- ---- all operators

abbrev pub value_in : Family → List ℕ → List ℕ → ℕ → Result (List ℕ) ℕ
value_in (f.Arithmetic operator) a b digits = in_digits (calculated (operator_of operator) (num a) (num b) digits)
value_in (f.Comparison comparison) a b digits = compared comparison (order a b digits)
value_in (f.StrictComparison comparison) a b digits = compared comparison (Ok (strict_order a b))
value_in (f.Logic connective) a b digits = truth_of (logic connective (logical a) (logical b))
value_in f.Join a b digits = joined a [] b
value_in f.BlankJoin a b digits = joined a (0x20 ∷ []) b
value_in f.NotBetween a b digits = Err 35

-- the value of an operator between two strings, or the error that it raises
unfoldable pub value : Oper → List ℕ → List ℕ → ℕ → Result (List ℕ) ℕ
value oper a b digits = value_in (family oper) a b digits

-- the value of an operator in front of a string, or the error that it raises: `+` adds the string to 0, and `-` takes it
-- from 0
unfoldable pub prefix_value : Oper → List ℕ → ℕ → Result (List ℕ) ℕ
prefix_value o.Plus a digits = in_digits (calculated Add (Some (pos 0)) (num a) digits)
prefix_value o.Minus a digits = in_digits (calculated Subtract (Some (pos 0)) (num a) digits)
prefix_value o.Not a digits = truth_of (negated (logical a))
prefix_value _ a digits = Err 35
