-- The functions on whole numbers within DIGITS; `d` is DIGITS.
use Rattle.std.specs.Prelude.{ℕ, ℤ, pos, negsuc, ◌==◌, Bool, not, is_some, int_lt, unsigned_abs, if◌then◌else◌, List, [], ◌∷◌, map, fold, replicate, codes, unwrap_or, Option, Result, Ok, Err}
use Rattle.std.specs.List.{list_all}
use Rattle.rx_whole.specs.Digits.{has_at_most}
use Rattle.rx_whole.specs.Number.{num, text_of}
use Rattle.rx_builtin.specs.declared.argument.Kind.TheVariants.{Number}
use Rattle.rx_builtin.specs.declared.number.OnNumbers.{OnNumbers}
use Rattle.rx_builtin.specs.declared.number.OnNumbers.TheVariants as f
use Rattle.rx_builtin.specs.Arguments.{Arguments}
use Rattle.rx_builtin.specs.Rows.{Row, row}

-- the text of a number that is given
abbrev pub given : Option (List ℕ) → List ℕ
given argument = unwrap_or argument []

-- whether an argument is a number
abbrev pub is_number : Option (List ℕ) → Bool
is_number argument = is_some (num (given argument))

-- the number of one that is, or 0
abbrev pub number_of : Option (List ℕ) → ℤ
number_of argument = unwrap_or (num (given argument)) (pos 0)

-- whether it has at most so many digits
abbrev pub is_within : ℕ → Option (List ℕ) → Bool
is_within digits argument = has_at_most digits (number_of argument)

-- the first of some numbers
abbrev pub first : List ℤ → ℤ
first [] = pos 0
first (n ∷ ns) = n

-- a number without its sign
abbrev pub magnitude : ℤ → ℤ
magnitude n = pos (unsigned_abs n)

-- 1, 0 or -1, for a number above, at or below 0
abbrev pub sign : ℤ → ℤ
sign n = if int_lt n (pos 0) then negsuc 0 else if unsigned_abs n == 0 then pos 0 else pos 1

-- the greater and the lesser of two numbers
abbrev pub greater : ℤ → ℤ → ℤ
greater m n = if int_lt m n then n else m

abbrev pub lesser : ℤ → ℤ → ℤ
lesser m n = if int_lt n m then n else m

-- the greatest and the least of some numbers
abbrev pub greatest : List ℤ → ℤ
greatest numbers = fold greater (first numbers) numbers

abbrev pub least : List ℤ → ℤ
least numbers = fold lesser (first numbers) numbers

-- the number that a function makes of some numbers
abbrev pub made_of : OnNumbers → List ℤ → ℤ
made_of f.Abs numbers = magnitude (first numbers)
made_of f.Max numbers = greatest numbers
made_of f.Min numbers = least numbers
made_of f.Sign numbers = sign (first numbers)

-- the value of a function whose arguments have to be numbers within DIGITS: 41 is raised where one of them is none, else 42
-- where one has more digits; else it is the text of the number that the function makes of them
abbrev pub number_value : OnNumbers → Arguments → ℕ → Result (List ℕ) ℕ
number_value function args digits =
    if not (list_all is_number args) then Err 41
    else if not (list_all (is_within digits) args) then Err 42
    else Ok (text_of (made_of function (map number_of args)))

abbrev pub on_numbers : OnNumbers → Row (Arguments → ℕ → Result (List ℕ) ℕ)
on_numbers f.Abs = row (codes "ABS") 1 (Number ∷ []) (number_value f.Abs)
on_numbers f.Max = row (codes "MAX") 1 (replicate 20 Number) (number_value f.Max)
on_numbers f.Min = row (codes "MIN") 1 (replicate 20 Number) (number_value f.Min)
on_numbers f.Sign = row (codes "SIGN") 1 (Number ∷ []) (number_value f.Sign)
