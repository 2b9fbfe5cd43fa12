-- Which kind of text a text is.
use Rattle.std.specs.Prelude.{ℕ, Bool, true, false, ◌+◌, ◌==◌, ◌||◌, ◌&&◌, not, is_some, if◌then◌else◌, List, length, codes, Option, None, Some, option_map, ok_or, Result, Ok}
use Rattle.std.specs.Char.{is_ascii_alphabetic, is_ascii_alphanumeric, is_ascii_lowercase, is_ascii_uppercase}
use Rattle.std.specs.List.{list_all}
use Rattle.rx_whole.specs.Number.{num}

-- whether a text has bytes, and each passes a test
abbrev pub each_is : (ℕ → Bool) → List ℕ → Bool
each_is test text = not (length text == 0) && list_all test text

-- whether a text is that of a whole number
abbrev pub is_number : List ℕ → Bool
is_number text = is_some (num text)

-- whether an option is this letter, given in upper case, in either case
abbrev pub is_option : ℕ → ℕ → Bool
is_option letter option = (option == letter) || (option == letter + 32)

-- whether a text is of the kind of an option: A (letters and digits), L (lower case), U (upper case), M (letters), N or W
-- (a whole number); none of another option
abbrev pub is_of_kind : List ℕ → ℕ → Option Bool
is_of_kind text option =
    if is_option 65 option then Some (each_is is_ascii_alphanumeric text)
    else if is_option 76 option then Some (each_is is_ascii_lowercase text)
    else if is_option 85 option then Some (each_is is_ascii_uppercase text)
    else if is_option 77 option then Some (each_is is_ascii_alphabetic text)
    else if is_option 78 option || is_option 87 option then Some (is_number text)
    else None

-- `1` or `0`
abbrev pub truth : Bool → List ℕ
truth true = codes "1"
truth false = codes "0"

-- DATATYPE: whether a text is of the kind of an option, of which another raises 40; without an option whether it is that of
-- a whole number
abbrev pub datatype : List ℕ → Option ℕ → Result (List ℕ) ℕ
datatype text None = Ok (if is_number text then codes "NUM" else codes "CHAR")
datatype text (Some option) = ok_or (option_map truth (is_of_kind text option)) 40
