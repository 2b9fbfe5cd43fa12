-- Which token a string is.
use Rattle.std.specs.Prelude.{◌≡◌, ℕ, Bool, true, false, ◌+◌, ◌-◌, ◌*◌, ◌%◌, ◌==◌, ◌||◌, ◌&&◌, not, List, [], ◌∷◌, ◌++◌, Option, None, Some, IsTrue, if◌then◌else◌, count_by, reverse}
use Rattle.std.specs.List.{list_all}
use Rattle.rx_tree.specs.declared.token.TokenKind.{TokenKind}
use Rattle.rx_tree.specs.declared.token.TokenKind.TheVariants.{Quoted}
use Rattle.rx_tree.specs.Letters.{is_blank, is_feed, is_quote, is_digit, is_between, is_symbol_byte, begins}

-- a text with each quote doubled
abbrev pub doubled : ℕ → List ℕ → List ℕ
doubled quote [] = []
doubled quote (b ∷ text) = if b == quote then quote ∷ (quote ∷ doubled quote text) else b ∷ doubled quote text

-- `B` or `b` behind a string makes it binary, `X` or `x` hexadecimal.
abbrev pub is_binary : ℕ → Bool
is_binary b = (b == 66) || (b == 98)

abbrev pub is_suffix : ℕ → Bool
is_suffix b = is_binary b || ((b == 88) || (b == 120))

-- whether a suffix stands at the front, which is no longer symbol
abbrev pub takes_suffix : List ℕ → Bool
takes_suffix [] = false
takes_suffix (b ∷ rest) = is_suffix b && not (begins is_symbol_byte rest)

-- In each of the words that follow, the truth says whether the digits are binary.

abbrev pub is_digit_in : Bool → ℕ → Bool
is_digit_in true b = is_between 48 49 b
is_digit_in false b = is_digit b || (is_between 65 70 b || is_between 97 102 b)

-- what a digit counts
abbrev pub digit_value : ℕ → ℕ
digit_value b = if is_digit b then b - 48 else (if is_between 65 70 b then b - 55 else b - 87)

abbrev pub base_of : Bool → ℕ
base_of true = 2
base_of false = 16

-- how many digits a group has, or a multiple of it
abbrev pub group_of : Bool → ℕ
group_of true = 4
group_of false = 2

-- how many digits make a byte
abbrev pub width_of : Bool → ℕ
width_of true = 8
width_of false = 2

-- how many digits stand in a text of digits and blanks
abbrev pub digits_in : List ℕ → ℕ
digits_in text = count_by (λ b. not (is_blank b)) text

-- Behind each blank stand as many digits as make whole groups. So each group but the first is whole.
abbrev pub is_grouped : Bool → List ℕ → Bool
is_grouped binary [] = true
is_grouped binary (b ∷ text) =
    (if is_blank b then digits_in text % group_of binary == 0 else is_digit_in binary b) && is_grouped binary text

-- No blank is outermost.
abbrev pub is_trimmed : List ℕ → Bool
is_trimmed text = not (begins is_blank text) && not (begins is_blank (reverse text))

-- The bytes of some digits, the last of which ends a byte. The first argument but one is what the digits of a byte that
-- was begun count so far.
abbrev pub bytes_of : Bool → ℕ → List ℕ → List ℕ
bytes_of binary so_far [] = []
bytes_of binary so_far (b ∷ text) =
    if is_blank b then bytes_of binary so_far text
    else (let sum = (so_far * base_of binary + digit_value b) % 256 in
    if digits_in text % width_of binary == 0 then sum ∷ bytes_of binary 0 text else bytes_of binary sum text)

-- the bytes of a binary or hexadecimal text, where it is one
abbrev pub packed : Bool → List ℕ → Option (List ℕ)
packed binary text = if is_trimmed text && is_grouped binary text then Some (bytes_of binary 0 text) else None

-- what a string's text means by the suffix, in front of the rest
abbrev pub IsMeant : TokenKind → List ℕ → List ℕ → List ℕ → Type 0
IsMeant kind text [] rest = (takes_suffix rest ≡ false) × (kind ≡ Quoted text)
IsMeant kind text (b ∷ []) rest =
    (bytes : List ℕ) × (takes_suffix (b ∷ rest) ≡ true) × (packed (is_binary b) text ≡ Some bytes) × (kind ≡ Quoted bytes)
IsMeant kind text _ rest = ⊥

-- A string is written so in front of the rest: a text on one line between quotes of one kind, in which a doubled quote
-- is one; no further such quote follows. It takes a suffix that stands behind it.
pub record IsString (kind : TokenKind) (written rest : List ℕ) : Type 0 where
  pub quote : ℕ
  pub text : List ℕ
  pub suffix : List ℕ
  pub quotes : IsTrue (is_quote quote)
  pub one_line : IsTrue (list_all (λ b. not (is_feed b)) text)
  pub is : written ≡ quote ∷ (doubled quote text ++ (quote ∷ suffix))
  pub ends : begins (λ b. b == quote) (suffix ++ rest) ≡ false
  pub meant : IsMeant kind text suffix rest
