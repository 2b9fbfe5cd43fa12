-- Which tokens an expression is written with, with a level as a number of the fact: the twin of `IsSpelt`.
use Rattle.std.proofs.Common.{◌≡◌, ◌≢◌, ◌<◌, ℕ, suc, Bool, false, true, List, [], ◌∷◌, Option, Some, None}
use Rattle.rx_tree.specs.declared.token.Oper.{Oper}
use Rattle.rx_tree.specs.declared.token.Token.{Token}
use Rattle.rx_tree.specs.declared.token.TokenKind.TheVariants as k
use Rattle.rx_tree.specs.declared.expr.Expr.{Expr}
use Rattle.rx_tree.specs.declared.expr.Expr.TheVariants as e
use Rattle.rx_tree.specs.declared.expr.SendPart.{SendPart}
use Rattle.rx_tree.specs.declared.stops.Stops.{Stops}
use Rattle.rx_tree.specs.declared.stops.Stops.TheVariants as s
use Rattle.rx_tree.specs.StopWords.{is_stop}
use Rattle.rx_tree.specs.Operators.{Tokens, level, operator_at}
use Rattle.rx_tree.specs.Terms.{term_of, name_of, is_string, call_at}
use Rattle.rx_tree.specs.Expressions.{AreSigns, IsAbove, part}
use Rattle.rx_exprs.specs.declared.operators.Opening.TheVariants.{Tilde, Bracket}
use Rattle.rx_exprs.specs.declared.operators.Bracketed.{Bracketed}
use Rattle.rx_exprs.specs.declared.operators.Bracketed.TheVariants.{Round, Square}
use Rattle.rx_exprs.specs.declared.operators.End.TheVariants.{Comma, Close}
use Rattle.rx_exprs.specs.Marks.{opening_of, end_of}
use Rattle.rx_exprs.specs.Reader.{loosest}
use Rattle.rx_exprs.proofs.Tables.{next_level}

mutual
  -- A number says how loosely the operators outside brackets bind, at most.
  pub data Written : Stops → ℕ → Expr → Tokens → Tokens → Type 0 where
    -- a symbol or a string, which takes a parenthesis that directly follows as its arguments
    word : {stops : Stops} {expr : Expr} {rest : Tokens} (t : Token)
        → term_of t.kind ≡ Some expr → is_stop stops t.kind ≡ false → call_at rest ≡ None
        → Written stops 0 expr (t ∷ rest) rest
    -- `( expr )`
    group : {stops : Stops} {expr : Expr} {tokens rest : Tokens} (t u : Token)
        → t.kind ≡ k.LeftParen → Written s.Nothing loosest expr tokens (u ∷ rest) → u.kind ≡ k.RightParen
        → Written stops 0 (e.Group expr) (t ∷ tokens) rest
    -- `name(args)`
    function : {stops : Stops} {args : List (Option Expr)} {tokens behind rest : Tokens} (t : Token) (name : List ℕ)
        → name_of t.kind ≡ Some name → is_stop stops t.kind ≡ false → call_at behind ≡ Some tokens → Args Round args tokens rest
        → Written stops 0 (e.Function name (is_string t.kind) args) (t ∷ behind) rest
    -- a term and messages
    sends : {stops : Stops} {receiver : Expr} {parts : List SendPart} {tokens behind rest : Tokens}
        → Written stops 0 receiver tokens behind → Sent parts behind rest → parts ≢ []
        → Written stops 1 (e.Sends receiver parts) tokens rest
    -- prefixes and a term
    prefix : {stops : Stops} {term : Expr} {opers : List Oper} {tokens behind rest : Tokens}
        → AreSigns opers tokens behind → opers ≢ [] → Written stops 1 term behind rest
        → Written stops 2 (e.Prefix opers term) tokens rest
    -- operands with operators of one level between them
    chain : {stops : Stops} {n : ℕ} {first : Expr} {terms : List (Oper × Expr)} {tokens behind rest : Tokens}
        → Written stops (suc (suc n)) first tokens behind → Joined stops n terms behind rest → terms ≢ []
        → Written stops (suc (suc (suc n))) (e.Chain first terms) tokens rest
    -- a level without an operator is the level above it
    above : {stops : Stops} {n : ℕ} {expr : Expr} {tokens rest : Tokens}
        → Written stops n expr tokens rest → Written stops (suc n) expr tokens rest

  -- operators of level n + 3, each with the operand behind it
  pub data Joined : Stops → ℕ → List (Oper × Expr) → Tokens → Tokens → Type 0 where
    no_more : {stops : Stops} {n : ℕ} {rest : Tokens} → Joined stops n [] rest rest
    joined : {stops : Stops} {n : ℕ} {oper : Oper} {expr : Expr} {terms : List (Oper × Expr)} {tokens behind others rest : Tokens}
        → operator_at stops tokens ≡ Some (oper, behind) → level oper ≡ suc (suc (suc n))
        → Written stops (suc (suc n)) expr behind others → Joined stops n terms others rest
        → Joined stops n ((oper, expr) ∷ terms) tokens rest

  -- messages
  pub data Sent : List SendPart → Tokens → Tokens → Type 0 where
    no_part : {rest : Tokens} → Sent [] rest rest
    message : {back : Bool} {class : Option (List ℕ)} {args : List (Option Expr)} {parts : List SendPart} {tokens behind others rest : Tokens}
        (t u : Token) (name : List ℕ) → opening_of t.kind ≡ Some (Tilde back) → name_of u.kind ≡ Some name → IsAbove class tokens behind
        → Called args behind others → Sent parts others rest
        → Sent (part name class args back false ∷ parts) (t ∷ (u ∷ tokens)) rest
    bracket : {args : List (Option Expr)} {parts : List SendPart} {tokens others rest : Tokens} (t : Token)
        → opening_of t.kind ≡ Some Bracket → Args Square args tokens others → Sent parts others rest
        → Sent (part [] None args false true ∷ parts) (t ∷ tokens) rest

  -- the arguments directly behind a message's name, or none
  pub data Called : List (Option Expr) → Tokens → Tokens → Type 0 where
    no_call : {rest : Tokens} → call_at rest ≡ None → Called [] rest rest
    call : {args : List (Option Expr)} {behind tokens rest : Tokens} → call_at behind ≡ Some tokens → Args Round args tokens rest
        → Called args behind rest

  -- arguments up to the closing bracket: none, or several that aren't one omitted argument alone
  pub data Args : Bracketed → List (Option Expr) → Tokens → Tokens → Type 0 where
    no_args : {bracketed : Bracketed} {rest : Tokens} (t : Token) → end_of bracketed t.kind ≡ Some Close → Args bracketed [] (t ∷ rest) rest
    some_args : {bracketed : Bracketed} {args : List (Option Expr)} {tokens rest : Tokens}
        → Listed bracketed args tokens rest → args ≢ None ∷ [] → Args bracketed args tokens rest

  -- arguments with commas between them, and the closing bracket
  pub data Listed : Bracketed → List (Option Expr) → Tokens → Tokens → Type 0 where
    last_arg : {bracketed : Bracketed} {arg : Option Expr} {tokens rest : Tokens} (t : Token)
        → Arg arg tokens (t ∷ rest) → end_of bracketed t.kind ≡ Some Close → Listed bracketed (arg ∷ []) tokens rest
    next_arg : {bracketed : Bracketed} {arg : Option Expr} {args : List (Option Expr)} {tokens behind rest : Tokens} (t : Token)
        → Arg arg tokens (t ∷ behind) → end_of bracketed t.kind ≡ Some Comma → Listed bracketed args behind rest
        → Listed bracketed (arg ∷ args) tokens rest

  pub data Arg : Option Expr → Tokens → Tokens → Type 0 where
    omitted : {rest : Tokens} → Arg None rest rest
    given : {expr : Expr} {tokens rest : Tokens} → Written s.Nothing loosest expr tokens rest → Arg (Some expr) tokens rest

-- The tokens begin with those of an expression, and nothing goes on with it.
pub record IsWhole (stops : Stops) (tokens : Tokens) (expr : Expr) (rest : Tokens) : Type 0 where
  pub written : Written stops loosest expr tokens rest
  pub longest : loosest < next_level stops rest
