-- Which tokens an expression is written with, a form a line. Each fact says that the tokens begin with those of a tree, and
-- which rest stands behind it.
use Rattle.std.specs.Prelude.{◌≡◌, ◌≢◌, ◌<◌, ℕ, Bool, true, false, List, [], ◌∷◌, Option, Some, None}
use Rattle.rx_tree.specs.declared.token.Oper.{Oper}
use Rattle.rx_tree.specs.declared.token.Oper.TheVariants as o
use Rattle.rx_tree.specs.declared.token.Token.{Token}
use Rattle.rx_tree.specs.declared.token.TokenKind.{TokenKind}
use Rattle.rx_tree.specs.declared.token.TokenKind.TheVariants as k
use Rattle.rx_tree.specs.declared.expr.Expr.{Expr, out-Expr}
use Rattle.rx_tree.specs.declared.expr.Expr.TheOpen.{Expr-F}
use Rattle.rx_tree.specs.declared.expr.Expr.TheVariants as e
use Rattle.rx_tree.specs.declared.expr.SendPart.{SendPart, roll-SendPart}
use Rattle.rx_tree.specs.declared.stops.Stops.{Stops}
use Rattle.rx_tree.specs.declared.stops.Stops.TheVariants as s
use Rattle.rx_tree.specs.StopWords.{is_stop}
use Rattle.rx_tree.specs.Operators.{Tokens, level, sign_of, operator_at, goes_on}
use Rattle.rx_tree.specs.Terms.{term_of, name_of, is_string, class_of, call_at, colon_follows}

-- ---- levels, as a condition on the finished tree

abbrev pub first_level : List (Oper × Expr) → ℕ
first_level [] = 0
first_level (term ∷ terms) = level term.0

-- how loosely an expression binds outside brackets: 0 for a term without messages, 1 for one with messages, 2 for
-- prefixes, and the level of its operators for a chain
abbrev pub layer_looseness : Expr-F Expr SendPart → ℕ
layer_looseness (Expr-F.Chain first terms) = first_level terms
layer_looseness (Expr-F.Prefix opers term) = 2
layer_looseness (Expr-F.Sends receiver parts) = 1
layer_looseness _ = 0

unfoldable pub looseness : Expr → ℕ
looseness expr = layer_looseness (out-Expr expr)

-- operators of this level alone, with operands that bind more tightly
abbrev pub AreOfLevel : ℕ → List (Oper × Expr) → Type 0
AreOfLevel n [] = Unit {0}
AreOfLevel n (term ∷ terms) = (level term.0 ≡ n) × (looseness term.1 < n) × AreOfLevel n terms

-- A chain has one operator at least, all of them are of one level, and all operands bind more tightly.
abbrev pub IsChain : Expr → List (Oper × Expr) → Type 0
IsChain first [] = ⊥
IsChain first (term ∷ terms) = (looseness first < level term.0) × AreOfLevel (level term.0) (term ∷ terms)

-- ---- forms

-- operators before a term
pub data AreSigns : List Oper → Tokens → Tokens → Type 0 where
  no_sign : {rest : Tokens} → AreSigns [] rest rest
  sign : {oper : Oper} {opers : List Oper} {behind rest : Tokens} (t : Token)
      → sign_of t.kind ≡ Some oper → AreSigns opers behind rest → AreSigns (oper ∷ opers) (t ∷ behind) rest

-- `~`, or `~~` where the receiver is the value
abbrev pub tilde : Bool → Oper
tilde false = o.Send
tilde true = o.SendBack

-- `:symbol` behind a message's name, or nothing, where no colon follows
pub data IsAbove : Option (List ℕ) → Tokens → Tokens → Type 0 where
  no_above : {rest : Tokens} → colon_follows rest ≡ false → IsAbove None rest rest
  above : {rest : Tokens} (t u : Token) (class : List ℕ) → t.kind ≡ k.Colon → class_of u.kind ≡ Some class → IsAbove (Some class) (t ∷ (u ∷ rest)) rest

abbrev pub part : List ℕ → Option (List ℕ) → List (Option Expr) → Bool → Bool → SendPart
part name class args back bracket =
    roll-SendPart (record { name = name; above = class; args = args; back = back; bracket = bracket })

mutual
  pub data IsSpelt : Stops → Expr → Tokens → Tokens → Type 0 where
    -- a symbol or a string that is no stop word. A parenthesis that directly follows would be its arguments
    word : {stops : Stops} {expr : Expr} {rest : Tokens} (t : Token)
        → term_of t.kind ≡ Some expr → is_stop stops t.kind ≡ false → call_at rest ≡ None
        → IsSpelt stops expr (t ∷ rest) rest
    -- `( expr )`, where inside no word is a stop word
    group : {stops : Stops} {expr : Expr} {tokens rest : Tokens} (t u : Token)
        → t.kind ≡ k.LeftParen → IsSpelt s.Nothing expr tokens (u ∷ rest) → u.kind ≡ k.RightParen
        → IsSpelt stops (e.Group expr) (t ∷ tokens) rest
    -- `name(args)`, with no blank before the parenthesis
    function : {stops : Stops} {args : List (Option Expr)} {tokens behind rest : Tokens} (t : Token) (name : List ℕ)
        → name_of t.kind ≡ Some name → is_stop stops t.kind ≡ false → call_at behind ≡ Some tokens
        → AreArgs k.RightParen args tokens rest
        → IsSpelt stops (e.Function name (is_string t.kind) args) (t ∷ behind) rest
    -- a term without messages, and one message at least
    sends : {stops : Stops} {receiver : Expr} {parts : List SendPart} {tokens behind rest : Tokens}
        → IsSpelt stops receiver tokens behind → looseness receiver ≡ 0 → AreParts parts behind rest → parts ≢ []
        → IsSpelt stops (e.Sends receiver parts) tokens rest
    -- one prefix operator at least, and a term
    prefix : {stops : Stops} {term : Expr} {opers : List Oper} {tokens behind rest : Tokens}
        → AreSigns opers tokens behind → opers ≢ [] → IsSpelt stops term behind rest → looseness term < 2
        → IsSpelt stops (e.Prefix opers term) tokens rest
    -- operands with operators of one level between them
    chain : {stops : Stops} {first : Expr} {terms : List (Oper × Expr)} {tokens behind rest : Tokens}
        → IsSpelt stops first tokens behind → AreTerms stops terms behind rest → IsChain first terms
        → IsSpelt stops (e.Chain first terms) tokens rest

  -- operators, each with the operand behind it. A join by a blank or by abuttal has no token
  pub data AreTerms : Stops → List (Oper × Expr) → Tokens → Tokens → Type 0 where
    no_term : {stops : Stops} {rest : Tokens} → AreTerms stops [] rest rest
    term : {stops : Stops} {oper : Oper} {expr : Expr} {terms : List (Oper × Expr)} {tokens behind others rest : Tokens}
        → operator_at stops tokens ≡ Some (oper, behind) → IsSpelt stops expr behind others → AreTerms stops terms others rest
        → AreTerms stops ((oper, expr) ∷ terms) tokens rest

  -- messages: `~name`, `~name:symbol`, `~name(args)`, `~name:symbol(args)`, the same with `~~`, and `[args]`
  pub data AreParts : List SendPart → Tokens → Tokens → Type 0 where
    no_part : {rest : Tokens} → AreParts [] rest rest
    message : {back : Bool} {class : Option (List ℕ)} {args : List (Option Expr)} {parts : List SendPart} {tokens behind others rest : Tokens}
        (t u : Token) (name : List ℕ) → t.kind ≡ k.Operator (tilde back) → name_of u.kind ≡ Some name → IsAbove class tokens behind
        → IsCall args behind others → AreParts parts others rest
        → AreParts (part name class args back false ∷ parts) (t ∷ (u ∷ tokens)) rest
    bracket : {args : List (Option Expr)} {parts : List SendPart} {tokens others rest : Tokens} (t : Token)
        → t.kind ≡ k.LeftBracket → AreArgs k.RightBracket args tokens others → AreParts parts others rest
        → AreParts (part [] None args false true ∷ parts) (t ∷ tokens) rest

  -- the arguments of a message: none, where no parenthesis directly follows, or those in parentheses
  pub data IsCall : List (Option Expr) → Tokens → Tokens → Type 0 where
    no_call : {rest : Tokens} → call_at rest ≡ None → IsCall [] rest rest
    call : {args : List (Option Expr)} {behind tokens rest : Tokens} → call_at behind ≡ Some tokens → AreArgs k.RightParen args tokens rest
        → IsCall args behind rest

  -- arguments up to the bracket that closes them: none, or several that aren't one omitted argument alone
  pub data AreArgs : TokenKind → List (Option Expr) → Tokens → Tokens → Type 0 where
    no_args : {close : TokenKind} {rest : Tokens} (t : Token) → t.kind ≡ close → AreArgs close [] (t ∷ rest) rest
    some_args : {close : TokenKind} {args : List (Option Expr)} {tokens rest : Tokens}
        → AreListed close args tokens rest → args ≢ None ∷ [] → AreArgs close args tokens rest

  -- arguments with commas between them, and the bracket that closes them
  pub data AreListed : TokenKind → List (Option Expr) → Tokens → Tokens → Type 0 where
    last_arg : {close : TokenKind} {arg : Option Expr} {tokens rest : Tokens} (t : Token)
        → IsArg arg tokens (t ∷ rest) → t.kind ≡ close → AreListed close (arg ∷ []) tokens rest
    next_arg : {close : TokenKind} {arg : Option Expr} {args : List (Option Expr)} {tokens behind rest : Tokens} (t : Token)
        → IsArg arg tokens (t ∷ behind) → t.kind ≡ k.Comma → AreListed close args behind rest
        → AreListed close (arg ∷ args) tokens rest

  -- an argument, which may be omitted. No word is a stop word in it
  pub data IsArg : Option Expr → Tokens → Tokens → Type 0 where
    omitted : {rest : Tokens} → IsArg None rest rest
    given : {expr : Expr} {tokens rest : Tokens} → IsSpelt s.Nothing expr tokens rest → IsArg (Some expr) tokens rest

-- The tokens begin with those of an expression, and the rest doesn't go on with it.
pub record Fits (stops : Stops) (tokens : Tokens) (expr : Expr) (rest : Tokens) : Type 0 where
  pub spelt : IsSpelt stops expr tokens rest
  pub whole : goes_on stops rest ≡ false
