-- Operators, brackets, commas and colons.
use Rattle.std.specs.Prelude.{◌≡◌, ℕ, Bool, false, ◌||◌, List, [], ◌∷◌, ◌++◌, Option, None, Some, is_some, if◌then◌else◌, codes}
use Rattle.std.specs.Str.{bytes_eq}
use Rattle.rx_tree.specs.declared.token.TokenKind.{TokenKind}
use Rattle.rx_tree.specs.declared.token.TokenKind.TheVariants.{Operator, LeftParen, RightParen, LeftBracket, RightBracket, Comma, Colon, TwoColons}
use Rattle.rx_tree.specs.declared.token.Oper.TheVariants as o

-- the marks, each with its token
abbrev pub marks : List (List ℕ × TokenKind)
marks =
    (codes "+", Operator o.Plus) ∷ ((codes "-", Operator o.Minus) ∷ ((codes "*", Operator o.Times)
    ∷ ((codes "/", Operator o.Divide) ∷ ((codes "%", Operator o.Quotient) ∷ ((codes "=", Operator o.Equal)
    ∷ ((codes ">", Operator o.Greater) ∷ ((codes "<", Operator o.Less) ∷ ((codes "&", Operator o.And)
    ∷ ((codes "|", Operator o.Or) ∷ ((codes "\\", Operator o.Not) ∷ ((codes "~", Operator o.Send)
    ∷ ((codes "(", LeftParen) ∷ ((codes ")", RightParen) ∷ ((codes "[", LeftBracket) ∷ ((codes "]", RightBracket)
    ∷ ((codes ",", Comma) ∷ ((codes ":", Colon)
    ∷ ((codes "//", Operator o.Remainder) ∷ ((codes "**", Operator o.Power) ∷ ((codes "||", Operator o.Concat)
    ∷ ((codes "\\=", Operator o.NotEqual) ∷ ((codes "<>", Operator o.NotEqual) ∷ ((codes "><", Operator o.NotEqual)
    ∷ ((codes ">=", Operator o.GreaterOrEqual) ∷ ((codes "\\<", Operator o.GreaterOrEqual)
    ∷ ((codes "<=", Operator o.LessOrEqual) ∷ ((codes "\\>", Operator o.LessOrEqual)
    ∷ ((codes "==", Operator o.StrictEqual) ∷ ((codes ">>", Operator o.StrictGreater) ∷ ((codes "<<", Operator o.StrictLess)
    ∷ ((codes "&&", Operator o.ExclusiveOr) ∷ ((codes "~~", Operator o.SendBack) ∷ ((codes "::", TwoColons)
    ∷ ((codes "\\==", Operator o.StrictNotEqual) ∷ ((codes ">>=", Operator o.StrictGreaterOrEqual)
    ∷ ((codes "<<=", Operator o.StrictLessOrEqual) ∷ []))))))))))))))))))))))))))))))))))))

-- what stands beside some bytes in a table
abbrev pub beside : List ℕ → List (List ℕ × TokenKind) → Option TokenKind
beside bytes [] = None
beside bytes (entry ∷ table) = if bytes_eq bytes entry.0 then Some entry.1 else beside bytes table

-- the token of a mark
unfoldable pub mark_of : List ℕ → Option TokenKind
mark_of written = beside written marks

-- Two hyphens, or a slash and a star, begin a comment.
abbrev pub opens_comment : List ℕ → Bool
opens_comment bytes = bytes_eq bytes (codes "--") || bytes_eq bytes (codes "/*")

-- whether bytes are a longer mark, or open a comment, together with the one behind them. The front of each mark is a mark.
abbrev pub goes_on : List ℕ → List ℕ → Bool
goes_on written [] = false
goes_on written (b ∷ rest) = let longer = written ++ b ∷ [] in is_some (mark_of longer) || opens_comment longer

-- A mark is written so in front of the rest, and nothing longer stands there.
pub record IsMark (kind : TokenKind) (written rest : List ℕ) : Type 0 where
  pub mark : mark_of written ≡ Some kind
  pub longest : goes_on written rest ≡ false
