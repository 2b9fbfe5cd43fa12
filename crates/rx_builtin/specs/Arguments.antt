-- The arguments of a call: of which kinds they are, and what they say. They are counted from 1.
use Rattle.std.specs.Prelude.{ℕ, pos, ◌-◌, ◌==◌, ◌&&◌, Bool, true, false, is_some, List, [], ◌∷◌, slice_index_or, Option, Some, None, option_and_then, unwrap_or}
use Rattle.rx_whole.specs.declared.reading.Numeral.{Numeral}
use Rattle.rx_whole.specs.declared.reading.Numeral.TheVariants.{Whole}
use Rattle.rx_whole.specs.Number.{num}
use Rattle.rx_whole.specs.Numeral.{numeral_of}
use Rattle.rx_builtin.specs.declared.argument.Kind.{Kind}
use Rattle.rx_builtin.specs.declared.argument.Kind.TheVariants.{Text, Count, Byte, Number}

-- the arguments of a call; one that is left out has no text
abbrev pub Arguments : Type 0
Arguments = List (Option (List ℕ))

-- ---- of which kinds they are

-- a numeral that is a count: of a whole number from 0 on of at most 18 digits
abbrev pub count_in : Numeral → Option ℕ
count_in (Whole (pos n)) = Some n
count_in _ = None

-- the number of a count, a length or a place, whatever DIGITS is
abbrev pub count_of : List ℕ → Option ℕ
count_of text = count_in (numeral_of (num text))

-- the byte of a text that has one alone, as a pad or the letter of an option
abbrev pub byte_of : List ℕ → Option ℕ
byte_of (byte ∷ []) = Some byte
byte_of _ = None

-- whether a text is in the range of a kind; which texts are numbers within DIGITS is no matter of range
abbrev pub is_in_range : Kind → List ℕ → Bool
is_in_range Text text = true
is_in_range Count text = is_some (count_of text)
is_in_range Byte text = is_some (byte_of text)
is_in_range Number text = true

-- whether an argument of a kind may be left out where it isn't needed and others stand behind it
abbrev pub may_be_omitted : Kind → Bool
may_be_omitted Text = true
may_be_omitted Count = true
may_be_omitted Byte = true
may_be_omitted Number = false

-- whether arguments are of these kinds, in their order: the first ones, so many, are given, and none is there for which
-- no kind stands
abbrev pub fits : ℕ → List Kind → Arguments → Bool
fits needed kinds [] = needed == 0
fits needed [] (argument ∷ args) = false
fits needed (kind ∷ kinds) (None ∷ args) = (needed == 0 && may_be_omitted kind) && fits needed kinds args
fits needed (kind ∷ kinds) (Some text ∷ args) = is_in_range kind text && fits (needed - 1) kinds args

-- ---- what they say, where they fit

-- an argument, if it is given
abbrev pub argument : ℕ → Arguments → Option (List ℕ)
argument place args = slice_index_or args (place - 1) None

-- a text that is needed
abbrev pub text : ℕ → Arguments → List ℕ
text place args = unwrap_or (argument place args) []

-- a number, if it is given
abbrev pub number : ℕ → Arguments → Option ℕ
number place args = option_and_then count_of (argument place args)

-- a number that is needed
abbrev pub count : ℕ → Arguments → ℕ
count place args = unwrap_or (number place args) 0

-- a byte, if it is given
abbrev pub byte : ℕ → Arguments → Option ℕ
byte place args = option_and_then byte_of (argument place args)

-- a pad: a blank where it is left out
abbrev pub pad : ℕ → Arguments → ℕ
pad place args = unwrap_or (byte place args) 0x20
