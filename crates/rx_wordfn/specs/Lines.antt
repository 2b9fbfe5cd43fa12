-- Words as one line, and how long it is.
use Rattle.std.specs.Prelude.{ℕ, ◌+◌, List, [], ◌∷◌, ◌++◌, length, flat_map}

-- a word and the space behind it
abbrev pub ended : List ℕ → List ℕ
ended word = word ++ (0x20 ∷ [])

-- some words with a space in front of the first and one behind each
abbrev pub line : List (List ℕ) → List ℕ
line words = 0x20 ∷ flat_map ended words

-- how long some words are with so many bytes in front of each
abbrev pub led_length : ℕ → List (List ℕ) → ℕ
led_length gap [] = 0
led_length gap (word ∷ words) = gap + length word + led_length gap words

-- how long they are with so many bytes in front of each but the first
abbrev pub spaced_length : ℕ → List (List ℕ) → ℕ
spaced_length gap [] = 0
spaced_length gap (word ∷ words) = length word + led_length gap words
