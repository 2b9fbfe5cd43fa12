-- What the functions inside the scanner compute. The crate's proofs show that it is what `IsPiece` means; nothing that is
-- promised to callers cites this file.
use Rattle.std.specs.Prelude.{ℕ, ◌==◌, ◌+◌, ◌-◌, cond, ◌&&◌, not, List, [], ◌∷◌, ◌++◌, Option, None, Some, take, drop}
use Rattle.std.specs.List.{prefix_len}
use Rattle.std.specs.Str.{str_to_ascii_uppercase}
use Rattle.rx_tree.specs.declared.token.TokenKind.{TokenKind}
use Rattle.rx_tree.specs.declared.token.TokenKind.TheVariants.{Quoted}
use Rattle.rx_tree.specs.Letters.{is_blank, is_feed, is_quote, is_symbol_byte, begins}
use Rattle.rx_tree.specs.Symbols.{symbol_of}
use Rattle.rx_tree.specs.Strings.{takes_suffix, is_binary, packed}
use Rattle.rx_tree.specs.Marks.{mark_of, opens_comment}
use Rattle.rx_tree.specs.Comments.{is_opening, is_closing}
use Rattle.rx_tree.specs.Pieces.{PieceKind, Blank, Nothing, LineEnd, Semicolon, Written}

-- Symbols.

abbrev pub symbol_at : List ℕ → TokenKind × List ℕ
symbol_at bytes = let n = prefix_len is_symbol_byte bytes in (symbol_of (str_to_ascii_uppercase (take n bytes)), drop n bytes)

-- Strings.

-- a string's text and what stands behind its closing quote, where the text so far was read
abbrev mutual
  pub string_from : ℕ → List ℕ → List ℕ → Option (List ℕ × List ℕ)
  string_from quote text [] = None
  string_from quote text (b ∷ bytes) =
      cond (b == quote) (string_at_quote quote text bytes) (cond (b == 10) None (string_from quote (text ++ b ∷ []) bytes))

  pub string_at_quote : ℕ → List ℕ → List ℕ → Option (List ℕ × List ℕ)
  string_at_quote quote text [] = Some (text, [])
  string_at_quote quote text (b ∷ bytes) = cond (b == quote) (string_from quote (text ++ quote ∷ []) bytes) (Some (text, b ∷ bytes))

abbrev pub quoted : Option (List ℕ) → List ℕ → Option (PieceKind × List ℕ)
quoted None rest = None
quoted (Some text) rest = Some (Written (Quoted text), rest)

-- the token of a text between quotes, by what stands behind it
abbrev pub suffixed : List ℕ → List ℕ → Option (PieceKind × List ℕ)
suffixed text [] = quoted (Some text) []
suffixed text (b ∷ rest) = cond (takes_suffix (b ∷ rest)) (quoted (packed (is_binary b) text) rest) (quoted (Some text) (b ∷ rest))

abbrev pub string_with : Option (List ℕ × List ℕ) → Option (PieceKind × List ℕ)
string_with None = None
string_with (Some read) = suffixed read.0 read.1

-- the token of the string behind an opening quote
abbrev pub string_at : ℕ → List ℕ → Option (PieceKind × List ℕ)
string_at quote bytes = string_with (string_from quote [] bytes)

-- Comments.

-- what stands behind a comment in which so many others are open
abbrev pub close_from : ℕ → List ℕ → Option (List ℕ)
close_from n [] = None
close_from n (b ∷ []) = None
close_from n (b ∷ (c ∷ bytes)) =
    cond (is_closing b c) (cond (n == 0) (Some bytes) (close_from (n - 1) bytes))
    (cond (is_opening b c) (close_from (n + 1) bytes) (close_from n (c ∷ bytes)))

-- the bytes from the end of the line on
abbrev pub line_rest : List ℕ → List ℕ
line_rest bytes = drop (prefix_len (λ b. not (is_feed b)) bytes) bytes

abbrev pub comment_at : List ℕ → Option (List ℕ)
comment_at [] = None
comment_at (b ∷ []) = None
comment_at (b ∷ (c ∷ bytes)) = cond (is_opening b c) (close_from 0 bytes) (cond ((b == 45) && (c == 45)) (Some (line_rest bytes)) None)

abbrev pub nothing_before : Option (List ℕ) → Option (PieceKind × List ℕ)
nothing_before None = None
nothing_before (Some rest) = Some (Nothing, rest)

abbrev pub space_at : List ℕ → Option (PieceKind × List ℕ)
space_at [] = None
space_at (b ∷ bytes) =
    cond (is_blank b) (Some (Blank, bytes))
    (cond ((b == 13) && begins is_feed bytes) (Some (Nothing, bytes)) (nothing_before (comment_at (b ∷ bytes))))

-- Marks.

abbrev pub or_else : Option TokenKind → List ℕ → Option (TokenKind × List ℕ) → Option (TokenKind × List ℕ)
or_else None rest later = later
or_else (Some kind) rest later = Some (kind, rest)

-- the longest mark of at most two bytes
abbrev pub short_mark : ℕ → List ℕ → Option (TokenKind × List ℕ)
short_mark b [] = or_else (mark_of (b ∷ [])) [] None
short_mark b (c ∷ bytes) = or_else (mark_of (b ∷ (c ∷ []))) bytes (or_else (mark_of (b ∷ [])) (c ∷ bytes) None)

abbrev pub longest_mark : List ℕ → Option (TokenKind × List ℕ)
longest_mark [] = None
longest_mark (b ∷ []) = short_mark b []
longest_mark (b ∷ (c ∷ [])) = short_mark b (c ∷ [])
longest_mark (b ∷ (c ∷ (d ∷ bytes))) = or_else (mark_of (b ∷ (c ∷ (d ∷ [])))) bytes (short_mark b (c ∷ (d ∷ bytes)))

abbrev pub mark_at : List ℕ → Option (TokenKind × List ℕ)
mark_at [] = None
mark_at (b ∷ []) = longest_mark (b ∷ [])
mark_at (b ∷ (c ∷ bytes)) = cond (opens_comment (b ∷ (c ∷ []))) None (longest_mark (b ∷ (c ∷ bytes)))

-- Pieces.

abbrev pub written_before : Option (TokenKind × List ℕ) → Option (PieceKind × List ℕ)
written_before None = None
written_before (Some read) = Some (Written read.0, read.1)

abbrev pub or_mark : Option (PieceKind × List ℕ) → List ℕ → Option (PieceKind × List ℕ)
or_mark None bytes = written_before (mark_at bytes)
or_mark (Some read) bytes = Some read

abbrev pub other_at : List ℕ → Option (PieceKind × List ℕ)
other_at bytes = or_mark (space_at bytes) bytes

-- the piece at the front of the bytes, and what stands behind it
abbrev pub piece_at : List ℕ → Option (PieceKind × List ℕ)
piece_at [] = None
piece_at (b ∷ bytes) =
    cond (is_symbol_byte b) (written_before (Some (symbol_at (b ∷ bytes))))
    (cond (is_quote b) (string_at b bytes)
    (cond (b == 10) (Some (LineEnd, bytes))
    (cond (b == 59) (Some (Semicolon, bytes)) (other_at (b ∷ bytes)))))
