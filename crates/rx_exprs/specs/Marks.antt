-- What single tokens are to the reader.
use Rattle.std.specs.Prelude.{Bool, true, false, if◌then◌else◌, [], ◌∷◌, Option, Some, None}
use Rattle.rx_tree.specs.declared.token.Oper.TheVariants as o
use Rattle.rx_tree.specs.declared.token.TokenKind.{TokenKind}
use Rattle.rx_tree.specs.declared.token.TokenKind.TheVariants as k
use Rattle.rx_tree.specs.Operators.{Tokens}
use Rattle.rx_exprs.specs.declared.operators.Opening.{Opening}
use Rattle.rx_exprs.specs.declared.operators.Opening.TheVariants.{Tilde, Bracket}
use Rattle.rx_exprs.specs.declared.operators.Bracketed.{Bracketed}
use Rattle.rx_exprs.specs.declared.operators.Bracketed.TheVariants.{Round, Square}
use Rattle.rx_exprs.specs.declared.operators.End.{End}
use Rattle.rx_exprs.specs.declared.operators.End.TheVariants.{Comma, Close}

abbrev pub is_left : TokenKind → Bool
is_left k.LeftParen = true
is_left _ = false

abbrev pub left_at : Tokens → Option Tokens
left_at [] = None
left_at (t ∷ behind) = if is_left t.kind then Some behind else None

abbrev pub is_right : TokenKind → Bool
is_right k.RightParen = true
is_right _ = false

-- what stands behind a closing parenthesis
abbrev pub closed_at : Tokens → Option Tokens
closed_at [] = None
closed_at (t ∷ behind) = if is_right t.kind then Some behind else None

abbrev pub opening_of : TokenKind → Option Opening
opening_of (k.Operator o.Send) = Some (Tilde false)
opening_of (k.Operator o.SendBack) = Some (Tilde true)
opening_of k.LeftBracket = Some Bracket
opening_of _ = None

abbrev pub opened : Option Opening → Tokens → Option (Opening × Tokens)
opened None behind = None
opened (Some opening) behind = Some (opening, behind)

abbrev pub opened_at : Tokens → Option (Opening × Tokens)
opened_at [] = None
opened_at (t ∷ behind) = opened (opening_of t.kind) behind

-- the bracket that closes some arguments
abbrev pub closing : Bracketed → TokenKind
closing Round = k.RightParen
closing Square = k.RightBracket

abbrev pub end_of : Bracketed → TokenKind → Option End
end_of bracketed k.Comma = Some Comma
end_of Round k.RightParen = Some Close
end_of Square k.RightBracket = Some Close
end_of bracketed _ = None

abbrev pub ended : Option End → Tokens → Option (End × Tokens)
ended None behind = None
ended (Some end) behind = Some (end, behind)

-- what ends an argument here, and what stands behind it
abbrev pub end_at : Bracketed → Tokens → Option (End × Tokens)
end_at bracketed [] = None
end_at bracketed (t ∷ behind) = ended (end_of bracketed t.kind) behind

abbrev pub if_close : Option (End × Tokens) → Option Tokens
if_close (Some (Close, rest)) = Some rest
if_close _ = None

-- what stands behind the bracket that closes some arguments here
abbrev pub ended_at : Bracketed → Tokens → Option Tokens
ended_at bracketed tokens = if_close (end_at bracketed tokens)

abbrev pub is_there : {A : Type 0} → Option A → Bool
is_there None = false
is_there (Some a) = true
