-- What reading the text of a number gives.
use Rattle.std.specs.Prelude.{ℤ, if◌then◌else◌, Option, Some, None}
use Rattle.rx_whole.specs.declared.reading.Numeral.{Numeral}
use Rattle.rx_whole.specs.declared.reading.Numeral.TheVariants.{Whole, Long, NoNumber}
use Rattle.rx_whole.specs.Digits.{has_at_most}

-- what reading a text gives: its number, where 18 digits are enough for it
abbrev pub numeral_of : Option ℤ → Numeral
numeral_of None = NoNumber
numeral_of (Some number) = if has_at_most 18 number then Whole number else Long
