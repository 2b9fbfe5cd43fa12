-- How deep brackets stand in one another.
use Rattle.std.specs.Prelude.{ℕ, ◌+◌, ◌-◌, max, List, [], ◌∷◌}
use Rattle.rx_tree.specs.declared.token.Token.{Token}
use Rattle.rx_tree.specs.declared.token.TokenKind.{TokenKind}
use Rattle.rx_tree.specs.declared.token.TokenKind.TheVariants.{LeftParen, RightParen, LeftBracket, RightBracket}

-- how many brackets are open behind a token, where so many were before; a closing one at none leaves none
abbrev pub depth_behind : ℕ → TokenKind → ℕ
depth_behind depth LeftParen = depth + 1
depth_behind depth LeftBracket = depth + 1
depth_behind depth RightParen = depth - 1
depth_behind depth RightBracket = depth - 1
depth_behind depth _ = depth

abbrev pub kind_of_token : Token → TokenKind
kind_of_token token = token.kind

-- the most brackets that are open at once, from a number of open ones on
abbrev pub depth_from : ℕ → List Token → ℕ
depth_from depth [] = depth
depth_from depth (token ∷ tokens) = max depth (depth_from (depth_behind depth (kind_of_token token)) tokens)

-- the most brackets that are open at once
abbrev pub bracket_depth : List Token → ℕ
bracket_depth tokens = depth_from 0 tokens
