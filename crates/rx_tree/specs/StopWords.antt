-- Which tokens are stop words: the words that end an expression of a clause, outside its brackets.
use Rattle.std.specs.Prelude.{ℕ, Bool, false, ◌||◌, List, [], ◌∷◌, codes}
use Rattle.std.specs.Str.{bytes_eq}
use Rattle.rx_tree.specs.declared.token.TokenKind.{TokenKind}
use Rattle.rx_tree.specs.declared.token.TokenKind.TheVariants.{Simple}
use Rattle.rx_tree.specs.declared.stops.Stops.{Stops}
use Rattle.rx_tree.specs.declared.stops.Stops.TheVariants.{Nothing, Then, Loop, With, Raise}

abbrev pub stop_words : Stops → List (List ℕ)
stop_words Nothing = []
stop_words Then = codes "THEN" ∷ []
stop_words Loop = codes "TO" ∷ (codes "BY" ∷ (codes "FOR" ∷ (codes "WHILE" ∷ (codes "UNTIL" ∷ []))))
stop_words With = codes "WITH" ∷ []
stop_words Raise = codes "DESCRIPTION" ∷ (codes "RETURN" ∷ [])

abbrev pub is_one_of : List (List ℕ) → List ℕ → Bool
is_one_of [] name = false
is_one_of (word ∷ words) name = bytes_eq word name || is_one_of words name

unfoldable pub is_stop_word : Stops → List ℕ → Bool
is_stop_word stops name = is_one_of (stop_words stops) name

-- A stop word stands as a simple symbol.
abbrev pub is_stop : Stops → TokenKind → Bool
is_stop stops (Simple name) = is_stop_word stops name
is_stop stops _ = false
