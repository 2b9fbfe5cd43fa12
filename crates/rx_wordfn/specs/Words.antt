-- The words of a text, and where they begin.
use Rattle.std.specs.Prelude.{ℕ, zero, suc, ◌-◌, Bool, true, false, List, [], ◌∷◌, length, take, drop, filter}
use Rattle.std.specs.List.{slice_split, position_or_len}
use Rattle.rx_text.specs.Blanks.{is_blank, without_blanks_in_front}

abbrev pub has_bytes : List ℕ → Bool
has_bytes [] = false
has_bytes (byte ∷ rest) = true

-- the words of a text, its runs without blanks: the text is cut at each blank, and the parts that have bytes are its words
abbrev pub words : List ℕ → List (List ℕ)
words text = filter has_bytes (slice_split is_blank text)

-- the text from its first blank on
abbrev pub from_blank : List ℕ → List ℕ
from_blank text = drop (position_or_len is_blank text) text

-- the text from the start of a word on, the one that has so many words in front of it; empty where there is none
abbrev pub from_word : ℕ → List ℕ → List ℕ
from_word zero text = without_blanks_in_front text
from_word (suc n) text = from_word n (from_blank (without_blanks_in_front text))

-- the bytes of a text in front of a part that it ends with
abbrev pub before : List ℕ → List ℕ → List ℕ
before part text = take (length text - length part) text
