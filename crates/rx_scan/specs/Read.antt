-- What the functions inside the scanner give, as the definitions see it.
use denote.Ref.{Bor}
use Rattle.std.specs.Prelude.{◌≡◌, ◌==◌, ◌||◌, ℕ, Bool, List, Option, None, Some, option_map, Vec, IsTrue, ◌∷◌, ◌++◌, not}
use Rattle.std.specs.declared.alloc.Global.{Global}
use Rattle.std.specs.List.{list_all}
use Rattle.memchr.specs.Find.{is_byte2}
use Rattle.rx_scan.specs.Reader.{string_from}
use Rattle.rx_tree.specs.declared.token.TokenKind.{TokenKind}
use Rattle.rx_tree.specs.Pieces.{PieceKind}
use Rattle.rx_tree.specs.Pieces as s
use Rattle.rx_tree.specs.Spelling as spelling
use Rattle.rx_scan.specs.declared.piece.Piece.{Piece}
use Rattle.rx_scan.specs.declared.piece.Piece.TheVariants.{Blank, Nothing, LineEnd, Semicolon, Written}
use Rattle.rx_scan.specs.declared.piece.Read.{Read}
use Rattle.rx_scan.specs.declared.piece.Read.TheVariants as r
use Rattle.rx_scan.specs.declared.place.Place.{Place}

abbrev pub kind_of : Piece → PieceKind
kind_of Blank = s.Blank
kind_of Nothing = s.Nothing
kind_of LineEnd = s.LineEnd
kind_of Semicolon = s.Semicolon
kind_of (Written kind) = s.Written kind

abbrev pub place_of : Place → spelling.Place
place_of place = record { line = place.line; blank = place.blank; has_token = place.has_token; continued = place.continued }

-- what a slice is, if there is one
abbrev pub rest_of : Option (Bor (List ℕ)) → Option (List ℕ)
rest_of found = option_map (λ r. r.now) found

abbrev pub SpaceRead : Option (Piece × Bor (List ℕ)) → Option (PieceKind × List ℕ) → Type 0
SpaceRead read is = option_map (λ r. (kind_of r.0, r.1.now)) read ≡ is

abbrev pub MarkRead : Option (TokenKind × Bor (List ℕ)) → Option (TokenKind × List ℕ) → Type 0
MarkRead read is = option_map (λ r. (r.0, r.1.now)) read ≡ is

abbrev pub TextRead : Option (Vec ℕ Global × Bor (List ℕ)) → Option (List ℕ × List ℕ) → Type 0
TextRead read is = option_map (λ r. (r.0.items, r.1.now)) read ≡ is

abbrev pub is_number : ℕ → Bool
is_number n = (n == 6) || ((n == 13) || (n == 15))

-- what was read is this piece with the bytes behind it, or none
abbrev pub IsRead : Option (PieceKind × List ℕ) → Read → Type 0
IsRead found (r.Piece piece rest) = found ≡ Some (kind_of piece, rest.now)
IsRead found (r.Refused number) = (found ≡ None) × IsTrue (is_number number)

-- the text of a string ends at this quote, in front of the bytes behind it or at a further quote
pub record IsSplit (quote : ℕ) (bytes front behind : List ℕ) : Type 0 where
  pub is : bytes ≡ front ++ (quote ∷ behind)
  pub plain : IsTrue (list_all (λ b. not (is_byte2 quote 10 b)) front)

-- no string ends in these bytes before the line does
abbrev pub HasNoQuote : ℕ → List ℕ → Type 0
HasNoQuote quote bytes = (text : List ℕ) → string_from quote text bytes ≡ None
