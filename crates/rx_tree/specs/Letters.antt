-- The bytes that tokens are made of.
use Rattle.std.specs.Prelude.{ℕ, Bool, false, ◌==◌, ◌||◌, ◌&&◌, nat_le, List, [], ◌∷◌}

-- A blank is a space or a tab.
abbrev pub is_blank : ℕ → Bool
is_blank b = (b == 32) || (b == 9)

-- A line ends at this byte.
abbrev pub is_feed : ℕ → Bool
is_feed b = b == 10

abbrev pub is_quote : ℕ → Bool
is_quote b = (b == 39) || (b == 34)

abbrev pub is_period : ℕ → Bool
is_period b = b == 46

abbrev pub is_between : ℕ → ℕ → ℕ → Bool
is_between low high b = nat_le low b && nat_le b high

abbrev pub is_digit : ℕ → Bool
is_digit b = is_between 48 57 b

abbrev pub is_letter : ℕ → Bool
is_letter b = is_between 97 122 b || is_between 65 90 b

-- A variable's name begins with a letter, `!`, `?` or `_`.
abbrev pub is_name_front : ℕ → Bool
is_name_front b = is_letter b || ((b == 33) || ((b == 63) || (b == 95)))

-- A symbol is made of these, digits and periods.
abbrev pub is_symbol_byte : ℕ → Bool
is_symbol_byte b = is_name_front b || (is_digit b || is_period b)

-- whether the first of some bytes passes a test
abbrev pub begins : (ℕ → Bool) → List ℕ → Bool
begins test [] = false
begins test (b ∷ bytes) = test b
