-- The number that a text says, and the text of a number.
use Rattle.std.specs.Prelude.{Bool, true, false, ◌≡◌, ℕ, ℤ, pos, neg_ℤ, ◌==◌, ◌<◌, ◌&&◌, nat_lt, if◌then◌else◌, IsTrue, List, [], ◌∷◌, ◌++◌, length, Option, Some, None, option_map}
use Rattle.std.specs.Char.{is_ascii_digit}
use Rattle.std.specs.List.{list_all}
use Rattle.std.specs.Str.Parse.{digits_value}
use Rattle.std.specs.Fmt.{signed_decimal}
use Rattle.rx_text.specs.Blanks.{is_blank, stripped, without_blanks_in_front}

-- ---- what a number text is

-- a magnitude, or its negative
abbrev pub with_sign : Bool → ℕ → ℤ
with_sign is_negative magnitude = if is_negative then neg_ℤ (pos magnitude) else pos magnitude

-- the sign in front of a number's digits
pub data Sign : Type 0 where
  NoSign : Sign
  Plus : Sign
  Minus : Sign

abbrev pub sign_bytes : Sign → List ℕ
sign_bytes NoSign = []
sign_bytes Plus = 0x2B ∷ []
sign_bytes Minus = 0x2D ∷ []

abbrev pub is_minus : Sign → Bool
is_minus NoSign = false
is_minus Plus = false
is_minus Minus = true

-- a text is that of a number: blanks, a sign or none, blanks, decimal digits, blanks, and the
-- number is what the digits say, with the sign
pub record IsNumberText (text : List ℕ) (number : ℤ) : Type 0 where
  pub before : List ℕ
  pub sign : Sign
  pub between : List ℕ
  pub digits : List ℕ
  pub after : List ℕ
  pub parts : text ≡ before ++ (sign_bytes sign ++ (between ++ (digits ++ after)))
  pub blank_before : IsTrue (list_all is_blank before)
  pub blank_between : IsTrue (list_all is_blank between)
  pub blank_after : IsTrue (list_all is_blank after)
  pub some_digit : 0 < length digits
  pub all_digits : IsTrue (list_all is_ascii_digit digits)
  pub value : number ≡ with_sign (is_minus sign) (digits_value 10 digits)

-- ---- the number of a text

-- the number that decimal digits say, of which there is at least one
abbrev pub digits_number : List ℕ → Option ℕ
digits_number digits =
    if nat_lt 0 (length digits) && list_all is_ascii_digit digits
    then Some (digits_value 10 digits)
    else None

-- the number of a sign or none, blanks and digits
abbrev pub signed_number : List ℕ → Option ℤ
signed_number [] = None
signed_number (first ∷ rest) =
    if first == 0x2D then option_map (with_sign true) (digits_number (without_blanks_in_front rest))
    else if first == 0x2B then option_map (with_sign false) (digits_number (without_blanks_in_front rest))
    else option_map (with_sign false) (digits_number (first ∷ rest))

-- the number of a text, if it is the text of one
unfoldable pub num : List ℕ → Option ℤ
num text = signed_number (stripped text)

-- ---- the text of a number

-- the text that a number has as a value: its digits, the first of which is 0 in the text of 0
-- alone, with `-` in front where it is negative
abbrev pub text_of : ℤ → List ℕ
text_of number = signed_decimal number
