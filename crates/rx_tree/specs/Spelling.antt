-- Which tokens a source is spelled by.
use Rattle.std.specs.Prelude.{◌≡◌, ◌≤◌, ℕ, Bool, true, false, ◌+◌, ◌||◌, ◌&&◌, not, List, [], ◌∷◌, Option, None, Some, if◌then◌else◌, count_by}
use Rattle.rx_tree.specs.declared.token.Token.{Token}
use Rattle.rx_tree.specs.declared.token.TokenKind.{TokenKind}
use Rattle.rx_tree.specs.declared.token.TokenKind.TheVariants.{Comma, Operator, ClauseEnd}
use Rattle.rx_tree.specs.declared.token.Oper.{Oper}
use Rattle.rx_tree.specs.declared.token.Oper.TheVariants.{Minus}
use Rattle.rx_tree.specs.Letters.{is_feed}
use Rattle.rx_tree.specs.Pieces.{PieceKind, Blank, Nothing, LineEnd, Semicolon, Written, Piece, AreCut}

-- how many lines end in some bytes
abbrev pub feeds : List ℕ → ℕ
feeds bytes = count_by is_feed bytes

-- A line whose last token is a comma or a hyphen is continued.
abbrev pub is_minus : Oper → Bool
is_minus Minus = true
is_minus _ = false

abbrev pub may_continue : TokenKind → Bool
may_continue Comma = true
may_continue (Operator oper) = is_minus oper
may_continue _ = false

-- whether a line ends in front of these pieces, blanks and what counts as nothing aside
abbrev pub ends_line : List Piece → Bool
ends_line [] = true
ends_line (piece ∷ after) = ends_at piece.kind (ends_line after)
  where
    ends_at : PieceKind → Bool → Bool
    ends_at Blank later = later
    ends_at Nothing later = later
    ends_at LineEnd later = true
    ends_at Semicolon later = false
    ends_at (Written kind) later = false

-- A place between two pieces.
pub record Place : Type 0 where
  -- one more than the line feeds before it
  pub line : ℕ
  -- whether a blank, or a dropped comma or hyphen, stands between it and the token before
  pub blank : Bool
  -- whether the clause has a token
  pub has_token : Bool
  -- whether the line's last token was dropped, so that its end ends no clause
  pub continued : Bool

abbrev pub first_place : Place
first_place = record { line = 1; blank = false; has_token = false; continued = false }

-- the token of this kind at a place
abbrev pub token_at : Place → TokenKind → Token
token_at place kind = record { kind = kind; line = place.line; blank = place.blank }

abbrev pub clause_end_at : Place → Bool → Option Token
clause_end_at place ends = if ends then Some (token_at place ClauseEnd) else None

-- The token that a piece at a place is, if it is one; the truth says whether a line ends in front of the pieces behind it.
-- A clause that has no token has no end. A comma or hyphen that continues its line is no token.
abbrev pub token_of : Place → PieceKind → Bool → Option Token
token_of place Blank ends = None
token_of place Nothing ends = None
token_of place LineEnd ends = clause_end_at place (place.has_token && not place.continued)
token_of place Semicolon ends = clause_end_at place place.has_token
token_of place (Written kind) ends = if may_continue kind && ends then None else Some (token_at place kind)

abbrev pub is_clause_end : TokenKind → Bool
is_clause_end ClauseEnd = true
is_clause_end _ = false

-- whether a piece that is no token is a blank, or stands for one
abbrev pub leaves_blank : PieceKind → Bool
leaves_blank Blank = true
leaves_blank (Written kind) = true
leaves_blank _ = false

-- whether a line is continued behind a piece that is no token
abbrev pub is_continued : PieceKind → Bool → Bool
is_continued LineEnd before = false
is_continued (Written kind) before = true
is_continued _ before = before

-- the place behind a piece, by the token that it is and the lines that end in it
abbrev pub place_behind : Place → PieceKind → ℕ → Option Token → Place
place_behind place kind lines None = record {
  line = place.line + lines;
  blank = place.blank || leaves_blank kind;
  has_token = place.has_token;
  continued = is_continued kind place.continued;
}
place_behind place kind lines (Some token) = record {
  line = place.line + lines;
  blank = false;
  has_token = not (is_clause_end token.kind);
  continued = false;
}

-- a token, if there is one, before others
abbrev pub before_others : Option Token → List Token → List Token
before_others None others = others
before_others (Some token) others = token ∷ others

-- The tokens of pieces from a place on. A clause that has a token ends at the end of the bytes at the latest.
abbrev pub tokens_of : Place → List Piece → List Token
tokens_of place [] = before_others (clause_end_at place place.has_token) []
tokens_of place (piece ∷ after) =
    let token = token_of place piece.kind (ends_line after) in
    before_others token (tokens_of (place_behind place piece.kind (feeds piece.written) token) after)

-- The source is spelled by these tokens: it can be cut into pieces, each of which is the spelling of one token or stands
-- between tokens.
pub record Spells (source : List ℕ) (tokens : List Token) : Type 0 where
  pub pieces : List Piece
  pub cut : AreCut pieces source
  pub tokens_are : tokens ≡ tokens_of first_place pieces

-- At most one list of tokens spells a source.
abbrev pub AtMostOneSpelling : Type 0
AtMostOneSpelling = (source : List ℕ) (tokens others : List Token) → Spells source tokens → Spells source others → tokens ≡ others

-- A token stands on a line of the source.
abbrev pub IsOnLine : List ℕ → Token → Type 0
IsOnLine source token = (1 ≤ token.line) × (token.line ≤ feeds source + 1)
