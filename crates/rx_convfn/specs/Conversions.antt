-- The conversions between texts, hexadecimal and binary digits, and numbers.
use Rattle.std.specs.Prelude.{ℕ, true, false, zero, suc, ◌+◌, ◌-◌, ◌%◌, ◌==◌, if◌then◌else◌, List, [], ◌∷◌, flat_map, Option, unwrap_or, Result, Ok, Err}
use Rattle.std.specs.Int.{w64, to_be_bytes}
use Rattle.hex.specs.Hex.{encode_upper}
use Rattle.rx_tree.specs.Strings.{bytes_of}
use Rattle.rx_answers.specs.Answers.{within_limit}
use Rattle.rx_convfn.specs.Digits.{of_digits, digits, number_of, values_of, within_digits, without_leading, four_bits, whole_fours, from_fours}

-- C2X: two hexadecimal digits for each byte, in upper case
abbrev pub c2x : List ℕ → Result (List ℕ) ℕ
c2x text = within_limit (encode_upper text)

-- X2C: the bytes of hexadecimal digits
abbrev pub x2c : List ℕ → Result (List ℕ) ℕ
x2c text = of_digits false text (within_limit (bytes_of false 0 text))

-- X2B: four binary digits for each hexadecimal one
abbrev pub x2b : List ℕ → Result (List ℕ) ℕ
x2b text = of_digits false text (within_limit (flat_map four_bits (digits text)))

-- B2X: a hexadecimal digit for each four binary ones, which get zeros in front to make whole fours
abbrev pub b2x : List ℕ → Result (List ℕ) ℕ
b2x text = of_digits true text (within_limit (from_fours (whole_fours (digits text))))

-- C2D: the number of the bytes of a text, the first of them the highest
abbrev pub c2d : List ℕ → ℕ → Result ℕ ℕ
c2d text count = within_digits count (number_of 256 text)

-- X2D: the number of hexadecimal digits
abbrev pub x2d : List ℕ → ℕ → Result ℕ ℕ
x2d text count = of_digits false text (within_digits count (number_of 16 (values_of (digits text))))

-- D2C: the eight bytes of a number from 1 on, the first of them the highest, without the zero bytes in front
abbrev pub d2c : ℕ → Result (List ℕ) ℕ
d2c n = if n == 0 then Err 40 else Ok (without_leading 0 (to_be_bytes w64 n))

-- D2X: the hexadecimal digits of the eight bytes of a number, without the zeros in front; `0` for 0
abbrev pub d2x : ℕ → Result (List ℕ) ℕ
d2x n = Ok (if n == 0 then 48 ∷ [] else without_leading 48 (encode_upper (to_be_bytes w64 n)))

-- so many bytes from one on, each one more than that before, and 0 behind 255
abbrev pub bytes_from : ℕ → ℕ → List ℕ
bytes_from first zero = []
bytes_from first (suc count) = first ∷ bytes_from ((first + 1) % 256) count

-- XRANGE: the bytes from `a` to `b`, which are 0 and 255 where they aren't given
abbrev pub xrange : Option ℕ → Option ℕ → Result (List ℕ) ℕ
xrange a b =
    let first = unwrap_or a 0 in
    Ok (bytes_from first ((unwrap_or b 255 + 256 - first) % 256 + 1))
