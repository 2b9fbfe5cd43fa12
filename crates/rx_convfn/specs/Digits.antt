-- Digits, and the numbers that they say.
use Rattle.std.specs.Prelude.{ℕ, Bool, ◌+◌, ◌-◌, ◌*◌, ◌/◌, ◌%◌, ◌^◌, ◌==◌, ◌&&◌, not, nat_lt, if◌then◌else◌, List, [], ◌∷◌, ◌++◌, length, replicate, filter, map, fold, slice_index, Result, Ok, Err}
use Rattle.hex.specs.Hex.{upper_digits}
use Rattle.rx_tree.specs.Letters.{is_blank}
use Rattle.rx_tree.specs.Strings.{digit_value, is_trimmed, is_grouped}

-- what comes of a text that has to be one of binary or of hexadecimal digits: another text raises 40
abbrev pub of_digits : {A : Type 0} → Bool → List ℕ → Result A ℕ → Result A ℕ
of_digits binary text value = if is_trimmed text && is_grouped binary text then value else Err 40

-- the digits of such a text, without the blanks between them
abbrev pub digits : List ℕ → List ℕ
digits text = filter (λ byte. not (is_blank byte)) text

-- the number of some values in a base, the first of them the highest
abbrev pub number_of : ℕ → List ℕ → ℕ
number_of base values = fold (λ number value. number * base + value) 0 values

-- what each digit counts
abbrev pub values_of : List ℕ → List ℕ
values_of digits = map digit_value digits

-- a number of at most so many decimal digits; another raises 40
abbrev pub within_digits : ℕ → ℕ → Result ℕ ℕ
within_digits count number = if nat_lt number (10 ^ count) then Ok number else Err 40

-- some bytes without those in front that are this byte
abbrev pub without_leading : ℕ → List ℕ → List ℕ
without_leading byte [] = []
without_leading byte (first ∷ bytes) = if first == byte then without_leading byte bytes else first ∷ bytes

-- the four binary digits of a hexadecimal one
abbrev pub four_bits : ℕ → List ℕ
four_bits digit =
    let value = digit_value digit in
    (48 + value / 8) ∷ (48 + value / 4 % 2) ∷ (48 + value / 2 % 2) ∷ (48 + value % 2) ∷ []

-- binary digits with zeros in front, as many as make whole fours
abbrev pub whole_fours : List ℕ → List ℕ
whole_fours bits = replicate ((4 - length bits % 4) % 4) 48 ++ bits

-- what a binary digit counts
abbrev pub bit : ℕ → ℕ
bit digit = if digit == 49 then 1 else 0

-- the hexadecimal digit of each four binary ones
abbrev pub from_fours : List ℕ → List ℕ
from_fours (a ∷ b ∷ c ∷ d ∷ bits) = slice_index upper_digits (bit a * 8 + bit b * 4 + bit c * 2 + bit d) ∷ from_fours bits
from_fours _ = []
