-- The functions on words. Words and bytes are counted from 1.
use Rattle.std.specs.Prelude.{◌≡◌, ℕ, ◌+◌, ◌-◌, ◌==◌, if◌then◌else◌, List, [], ◌∷◌, ◌++◌, length, drop, replicate, flat_map, bytes_eq, slice_index_or, Option, None, Some, option_map, unwrap_or, Result, Ok}
use Rattle.std.specs.List.{starts_with}
use Rattle.rx_text.specs.Blanks.{stripped}
use Rattle.rx_answers.specs.Answers.{within_limit, at_place}
use Rattle.rx_wordfn.specs.Words.{words, has_bytes, from_word, before}

-- word `n` of a text, empty where there is none
abbrev pub nth_word : ℕ → List ℕ → List ℕ
nth_word n text = slice_index_or (words text) (n - 1) []

-- WORD: word `n`
abbrev pub word : ℕ → List ℕ → Result (List ℕ) ℕ
word n text = at_place n (within_limit (nth_word n text))

-- WORDLENGTH: the length of word `n`, 0 where there is none
abbrev pub wordlength : ℕ → List ℕ → Result ℕ ℕ
wordlength n text = at_place n (Ok (length (nth_word n text)))

-- the place in a text of the part that it ends with, 0 where that is empty
abbrev pub place_of : List ℕ → List ℕ → ℕ
place_of part text = if has_bytes part then length text - length part + 1 else 0

-- WORDINDEX: the place of the first byte of word `n`, 0 where there is none
abbrev pub wordindex : ℕ → List ℕ → Result ℕ ℕ
wordindex n text = at_place n (Ok (place_of (from_word (n - 1) text) text))

-- from a place on stand the words from word `n` on
abbrev pub WordsFrom : ℕ → List ℕ → ℕ → Type 0
WordsFrom n text place = words (drop (place - 1) text) ≡ drop (n - 1) (words text)

-- what stands behind the first words of a text, from the next one on; nothing behind them where no count is given
abbrev pub behind_words : Option ℕ → List ℕ → List ℕ
behind_words None text = []
behind_words (Some count) text = from_word count text

-- SUBWORD: from the start of word `n` to the start of the word that is `count` words further on, or to the end, without
-- the blanks that stand last
abbrev pub subword : ℕ → Option ℕ → List ℕ → Result (List ℕ) ℕ
subword n count text =
    let part = from_word (n - 1) text in
    at_place n (within_limit (stripped (before (behind_words count part) part)))

-- DELWORD: the text without its bytes from the start of word `n` to the start of the word that is `count` words further
-- on, or to the end
abbrev pub delword : ℕ → Option ℕ → List ℕ → Result (List ℕ) ℕ
delword n count text =
    let part = from_word (n - 1) text in
    at_place n (within_limit (before part text ++ behind_words count part))

-- some words, with a gap in front of each but the first
abbrev pub spaced : List ℕ → List (List ℕ) → List ℕ
spaced gap [] = []
spaced gap (word ∷ words) = word ++ flat_map (λ next. gap ++ next) words

-- SPACE: the words of a text with `n` pads between them, 1 where no count is given
abbrev pub space : Option ℕ → ℕ → List ℕ → Result (List ℕ) ℕ
space n pad text = within_limit (spaced (replicate (unwrap_or n 1) pad) (words text))

-- how many of some words stand in front of the first place where those of a row stand, one after the other
abbrev pub before_row : List (List ℕ) → List (List ℕ) → Option ℕ
before_row row [] = None
before_row row (word ∷ words) =
    if starts_with bytes_eq (word ∷ words) row then Some 0
    else option_map (λ count. count + 1) (before_row row words)

-- the number of a word that has so many in front of it, from word `n` on; 0 where there is none
abbrev pub word_number : ℕ → Option ℕ → ℕ
word_number n None = 0
word_number n (Some count) = n + count

-- WORDPOS: the number of the first word, from word `n` on, where the words of the phrase stand in a row; 0 where they
-- don't, or where the phrase has none. `n` is 1 where it isn't given.
abbrev pub wordpos : List ℕ → Option ℕ → List ℕ → Result ℕ ℕ
wordpos phrase from text =
    let n = unwrap_or from 1 in
    let row = words phrase in
    at_place n (Ok (if length row == 0 then 0 else word_number n (before_row row (drop (n - 1) (words text)))))
