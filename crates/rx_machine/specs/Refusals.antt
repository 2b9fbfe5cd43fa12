-- The errors that steps raise.
use Rattle.std.specs.Prelude.{ℕ}

-- a position in a template is no whole number, or is negative
abbrev pub invalid_whole_number : ℕ
invalid_whole_number = 26

-- USE STRICT in a routine or the main program has too few arguments, or too many
abbrev pub incorrect_call : ℕ
incorrect_call = 40

-- a number has more digits than may be
abbrev pub bad_arithmetic : ℕ
bad_arithmetic = 42

-- a function gave no value
abbrev pub no_data_returned : ℕ
no_data_returned = 44

-- a message in an expression gave no value
abbrev pub no_value_returned : ℕ
no_value_returned = 91
