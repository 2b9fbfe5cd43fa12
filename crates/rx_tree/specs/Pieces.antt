-- The pieces that a source is cut into.
use Rattle.std.specs.Prelude.{◌≡◌, ℕ, List, [], ◌∷◌, ◌++◌, IsTrue, ◌⊎◌}
use Rattle.rx_tree.specs.declared.token.TokenKind.{TokenKind}
use Rattle.rx_tree.specs.Letters.{is_blank, is_feed, begins}
use Rattle.rx_tree.specs.Symbols.{IsSymbol}
use Rattle.rx_tree.specs.Strings.{IsString}
use Rattle.rx_tree.specs.Marks.{IsMark}
use Rattle.rx_tree.specs.Comments.{IsComment, IsLineComment}

-- A piece is a blank, what counts as nothing, the end of a line, a semicolon, or what a token is written with.
pub data PieceKind : Type 0 where
  Blank : PieceKind
  Nothing : PieceKind
  LineEnd : PieceKind
  Semicolon : PieceKind
  Written : TokenKind → PieceKind

pub record Piece : Type 0 where
  pub kind : PieceKind
  pub written : List ℕ

-- A carriage return directly before a line feed counts as nothing.
pub record IsReturn (written rest : List ℕ) : Type 0 where
  pub is : written ≡ 13 ∷ []
  pub ends : IsTrue (begins is_feed rest)

-- A piece is written so in front of the rest.
abbrev pub IsPiece : PieceKind → List ℕ → List ℕ → Type 0
IsPiece Blank written rest = (b : ℕ) × (IsTrue (is_blank b)) × (written ≡ b ∷ [])
IsPiece Nothing written rest = IsComment written ⊎ (IsLineComment written rest ⊎ IsReturn written rest)
IsPiece LineEnd written rest = written ≡ 10 ∷ []
IsPiece Semicolon written rest = written ≡ 59 ∷ []
IsPiece (Written kind) written rest = IsSymbol kind written rest ⊎ (IsString kind written rest ⊎ IsMark kind written rest)

-- Bytes are a piece, and a rest of which this holds.
pub record BeginsWith (piece : Piece) (Rest : List ℕ → Type 0) (bytes : List ℕ) : Type 0 where
  pub rest : List ℕ
  pub is : bytes ≡ piece.written ++ rest
  pub fits : IsPiece piece.kind piece.written rest
  pub others : Rest rest

-- Bytes can be cut into these pieces, in order.
abbrev pub AreCut : List Piece → List ℕ → Type 0
AreCut [] bytes = bytes ≡ []
AreCut (piece ∷ pieces) bytes = BeginsWith piece (λ rest. AreCut pieces rest) bytes
