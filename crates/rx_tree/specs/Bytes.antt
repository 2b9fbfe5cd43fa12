-- The bytes of a text.
use Rattle.std.specs.Prelude.{ℕ}

-- the most bytes that a string of the language has, 16 MiB
abbrev pub longest : ℕ
longest = 16777216
