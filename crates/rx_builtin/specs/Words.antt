-- The functions on words.
use Rattle.std.specs.Prelude.{ℕ, List, [], ◌∷◌, length, codes, Result, Ok}
use Rattle.rx_wordfn.specs.Words.{words}
use Rattle.rx_wordfn.specs.Functions.{delword, space, subword, word, wordindex, wordlength, wordpos}
use Rattle.rx_builtin.specs.declared.argument.Kind.TheVariants.{Text, Count, Byte}
use Rattle.rx_builtin.specs.declared.word.OnWords.{OnWords}
use Rattle.rx_builtin.specs.declared.word.OnWords.TheVariants as f
use Rattle.rx_builtin.specs.Answers.{in_digits}
use Rattle.rx_builtin.specs.Arguments.{Arguments, text, count, number, pad}
use Rattle.rx_builtin.specs.Rows.{Row, row}

abbrev pub on_words : OnWords → Row (Arguments → Result (List ℕ) ℕ)
on_words f.Delword = row (codes "DELWORD") 2 (Text ∷ Count ∷ Count ∷ []) (λ a. delword (count 2 a) (number 3 a) (text 1 a))
on_words f.Space = row (codes "SPACE") 1 (Text ∷ Count ∷ Byte ∷ []) (λ a. space (number 2 a) (pad 3 a) (text 1 a))
on_words f.Subword = row (codes "SUBWORD") 2 (Text ∷ Count ∷ Count ∷ []) (λ a. subword (count 2 a) (number 3 a) (text 1 a))
on_words f.Word = row (codes "WORD") 2 (Text ∷ Count ∷ []) (λ a. word (count 2 a) (text 1 a))
on_words f.Wordindex = row (codes "WORDINDEX") 2 (Text ∷ Count ∷ []) (λ a. in_digits (wordindex (count 2 a) (text 1 a)))
on_words f.Wordlength = row (codes "WORDLENGTH") 2 (Text ∷ Count ∷ []) (λ a. in_digits (wordlength (count 2 a) (text 1 a)))
on_words f.Wordpos =
    row (codes "WORDPOS") 2 (Text ∷ Text ∷ Count ∷ [])
    (λ a. in_digits (wordpos (text 1 a) (number 3 a) (text 2 a)))
on_words f.Words = row (codes "WORDS") 1 (Text ∷ []) (λ a. in_digits (Ok (length (words (text 1 a)))))
