-- Which token a symbol is.
use Rattle.std.specs.Prelude.{◌≡◌, ℕ, Bool, false, ◌+◌, ◌||◌, ◌&&◌, List, [], ◌∷◌, Option, None, Some, IsTrue, if◌then◌else◌, map, take, drop, position}
use Rattle.std.specs.List.{list_all, slice_split}
use Rattle.std.specs.Str.{str_to_ascii_uppercase}
use Rattle.rx_tree.specs.declared.name.Part.{Part}
use Rattle.rx_tree.specs.declared.name.Part.TheVariants.{Fixed, Of}
use Rattle.rx_tree.specs.declared.token.TokenKind.{TokenKind}
use Rattle.rx_tree.specs.declared.token.TokenKind.TheVariants.{Simple, Stem, Compound, Constant, Environment, Period}
use Rattle.rx_tree.specs.Letters.{is_digit, is_period, is_name_front, is_symbol_byte, begins}

-- A part of a tail that begins as a variable does is one, and another stands for itself.
abbrev pub part_of : List ℕ → Part
part_of part = if begins is_name_front part then Of part else Fixed part

-- The parts of a tail stand between its periods.
abbrev pub parts_of : List ℕ → List Part
parts_of tail = map part_of (slice_split is_period tail)

-- a stem, with its period, and the tail behind it
abbrev pub with_tail : List ℕ → List ℕ → TokenKind
with_tail stem [] = Stem stem
with_tail stem (b ∷ tail) = Compound stem (parts_of (b ∷ tail))

-- a variable, by the place of its first period
abbrev pub variable_of : List ℕ → Option ℕ → TokenKind
variable_of name None = Simple name
variable_of name (Some at) = with_tail (take (at + 1) name) (drop (at + 1) name)

-- A digit, or a period and a digit, begins a constant.
abbrev pub begins_constant : List ℕ → Bool
begins_constant [] = false
begins_constant (b ∷ bytes) = is_digit b || (is_period b && begins is_digit bytes)

-- Another symbol that begins with a period is that period alone, or an environment symbol.
abbrev pub with_period : List ℕ → TokenKind
with_period [] = Period
with_period (b ∷ []) = Period
with_period (b ∷ (c ∷ bytes)) = Environment (b ∷ (c ∷ bytes))

-- the token of a symbol whose letters are in upper case
abbrev pub symbol_of : List ℕ → TokenKind
symbol_of symbol =
    if begins_constant symbol then Constant symbol
    else (if begins is_period symbol then with_period symbol else variable_of symbol (position is_period symbol))

-- A symbol is written so in front of the rest. No further byte of a symbol follows.
pub record IsSymbol (kind : TokenKind) (written rest : List ℕ) : Type 0 where
  pub some : IsTrue (begins is_symbol_byte written)
  pub all : IsTrue (list_all is_symbol_byte written)
  pub ends : begins is_symbol_byte rest ≡ false
  pub is : kind ≡ symbol_of (str_to_ascii_uppercase written)
