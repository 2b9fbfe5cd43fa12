-- The levels of operators, and which operator stands behind an operand.
use Rattle.std.specs.Prelude.{ℕ, Bool, true, false, ◌||◌, if◌then◌else◌, List, [], ◌∷◌, Option, Some, None, is_some}
use Rattle.rx_tree.specs.declared.token.Oper.{Oper}
use Rattle.rx_tree.specs.declared.token.Oper.TheVariants as o
use Rattle.rx_tree.specs.declared.token.Token.{Token}
use Rattle.rx_tree.specs.declared.token.TokenKind.{TokenKind}
use Rattle.rx_tree.specs.declared.token.TokenKind.TheVariants as k
use Rattle.rx_tree.specs.declared.stops.Stops.{Stops}
use Rattle.rx_tree.specs.StopWords.{is_stop}

abbrev pub Tokens : Type 0
Tokens = List Token

-- How loosely an operator with two operands binds: 3 is the tightest. 0 is the level of a term without messages, 1 that of
-- a term with messages, and 2 that of prefixes. The last three operators have no two operands, and 10 is no level.
abbrev pub level : Oper → ℕ
level o.Power = 3
level o.Times = 4
level o.Divide = 4
level o.Quotient = 4
level o.Remainder = 4
level o.Plus = 5
level o.Minus = 5
level o.Concat = 6
level o.Blank = 6
level o.Abuttal = 6
level o.Equal = 7
level o.NotEqual = 7
level o.Greater = 7
level o.Less = 7
level o.GreaterOrEqual = 7
level o.LessOrEqual = 7
level o.StrictEqual = 7
level o.StrictNotEqual = 7
level o.StrictGreater = 7
level o.StrictLess = 7
level o.StrictGreaterOrEqual = 7
level o.StrictLessOrEqual = 7
level o.And = 8
level o.Or = 9
level o.ExclusiveOr = 9
level o.Not = 10
level o.Send = 10
level o.SendBack = 10

-- the operator of a prefix
abbrev pub sign_of : TokenKind → Option Oper
sign_of (k.Operator o.Plus) = Some o.Plus
sign_of (k.Operator o.Minus) = Some o.Minus
sign_of (k.Operator o.Not) = Some o.Not
sign_of _ = None

-- Two operands side by side are joined, by a blank where one stands between them.
abbrev pub join : Bool → Oper
join true = o.Blank
join false = o.Abuttal

-- Behind an operand `\` begins the right operand of a join, messages are none of its operators, and each other operator
-- has its right operand behind it, `+` and `-` too. `blank` says whether a blank stands before the token, `here` is what
-- begins with it, and `behind` what stands behind it.
abbrev pub joint_of_oper : Oper → Bool → Tokens → Tokens → Option (Oper × Tokens)
joint_of_oper o.Not blank here behind = Some (join blank, here)
joint_of_oper o.Send blank here behind = None
joint_of_oper o.SendBack blank here behind = None
joint_of_oper o.Blank blank here behind = None
joint_of_oper o.Abuttal blank here behind = None
joint_of_oper oper blank here behind = Some (oper, behind)

-- Behind an operand a symbol, a string or a parenthesis begins the right operand of a join.
abbrev pub joint_of : TokenKind → Bool → Tokens → Tokens → Option (Oper × Tokens)
joint_of (k.Operator oper) blank here behind = joint_of_oper oper blank here behind
joint_of (k.Simple name) blank here behind = Some (join blank, here)
joint_of (k.Stem stem) blank here behind = Some (join blank, here)
joint_of (k.Compound stem tail) blank here behind = Some (join blank, here)
joint_of (k.Constant text) blank here behind = Some (join blank, here)
joint_of (k.Environment name) blank here behind = Some (join blank, here)
joint_of (k.Quoted text) blank here behind = Some (join blank, here)
joint_of k.LeftParen blank here behind = Some (join blank, here)
joint_of _ blank here behind = None

-- the operator that stands behind an operand, and the tokens from its right operand on
unfoldable pub operator_at : Stops → Tokens → Option (Oper × Tokens)
operator_at stops [] = None
operator_at stops (t ∷ behind) = if is_stop stops t.kind then None else joint_of t.kind t.blank (t ∷ behind) behind

-- `~`, `~~` and `[` begin a message to the term before them.
abbrev pub begins_message : TokenKind → Bool
begins_message (k.Operator o.Send) = true
begins_message (k.Operator o.SendBack) = true
begins_message k.LeftBracket = true
begins_message _ = false

abbrev pub message_follows : Tokens → Bool
message_follows [] = false
message_follows (t ∷ behind) = begins_message t.kind

-- whether tokens go on with an expression that stands before them
unfoldable pub goes_on : Stops → Tokens → Bool
goes_on stops tokens = message_follows tokens || is_some (operator_at stops tokens)
