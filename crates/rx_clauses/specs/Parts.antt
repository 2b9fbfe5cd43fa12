-- What readers of clauses have in common.
use Rattle.std.specs.Prelude.{ℕ, zero, suc, ◌+◌, Bool, true, false, ◌||◌, if◌then◌else◌, List, [], ◌∷◌, length, Option, Some, None, Ok, Err}
use Rattle.rx_tree.specs.declared.name.Name.{Name}
use Rattle.rx_tree.specs.declared.token.TokenKind.{TokenKind}
use Rattle.rx_tree.specs.declared.token.TokenKind.TheVariants as k
use Rattle.rx_tree.specs.declared.expr.Expr.{Expr}
use Rattle.rx_tree.specs.declared.expr.Expr.TheVariants as e
use Rattle.rx_tree.specs.declared.stops.Stops.TheVariants as s
use Rattle.rx_tree.specs.Operators.{Tokens}
use Rattle.rx_exprs.specs.Marks.{left_at, closed_at}
use Rattle.rx_exprs.specs.Reader.{Outcome, and_then, on_some, lack, refusal, no_turns, expression}
use Rattle.rx_clause_tree.specs.ClauseWords.{variable_of, symbol_of, is_word, is_clause_end, behind_end}

-- ---- single tokens

-- A symbol that can be no variable, since it begins with a digit or a period, is refused by 31, and what is no symbol by 20.
abbrev pub no_variable : TokenKind → ℕ
no_variable (k.Constant text) = 31
no_variable (k.Environment name) = 31
no_variable k.Period = 31
no_variable _ = 20

abbrev pub taken : {A : Type 0} → Option A → ℕ → Tokens → Tokens → Outcome A
taken None number here behind = Err (lack number here)
taken (Some found) number here behind = Ok (found, behind)

-- a variable
abbrev pub variable_at : Tokens → Outcome Name
variable_at [] = Err (lack 20 [])
variable_at (t ∷ behind) = taken (variable_of t.kind) (no_variable t.kind) (t ∷ behind) behind

-- a symbol
abbrev pub symbol_at : Tokens → Outcome (List ℕ)
symbol_at [] = Err (lack 20 [])
symbol_at (t ∷ behind) = taken (symbol_of t.kind) 20 (t ∷ behind) behind

-- what stands behind the symbol of a word
abbrev pub behind_symbol : List ℕ → Tokens → Option Tokens
behind_symbol spelling [] = None
behind_symbol spelling (t ∷ behind) = if is_word spelling t.kind then Some behind else None

abbrev pub is_comma : TokenKind → Bool
is_comma k.Comma = true
is_comma _ = false

-- what stands behind a comma here
abbrev pub behind_comma : Tokens → Option Tokens
behind_comma [] = None
behind_comma (t ∷ rest) = if is_comma t.kind then Some rest else None

-- ---- ends

-- what was found, and the end of the clause behind it. Another token is refused by this number
abbrev pub to_end_by : {A : Type 0} → ℕ → A → Tokens → Outcome A
to_end_by number found tokens = on_some (behind_end tokens) (Err (refusal number tokens)) (λ rest. Ok (found, rest))

abbrev pub to_end : {A : Type 0} → A → Tokens → Outcome A
to_end found tokens = to_end_by 21 found tokens

-- an expression, and the end of the clause
abbrev pub last_expression : Tokens → Outcome Expr
last_expression tokens = and_then (expression s.Nothing tokens) (λ expr rest. to_end expr rest)

-- an expression that may be omitted, and the end of the clause
abbrev pub given : Tokens → Outcome (Option Expr)
given tokens = on_some (behind_end tokens) (and_then (last_expression tokens) (λ expr rest. Ok (Some expr, rest))) (λ rest. Ok (None, rest))

-- ---- lists

abbrev pub named : Option Name → ℕ → Tokens → Outcome (List Name) → Outcome (List Name)
named None number here others = Err (lack number here)
named (Some name) number here others = and_then others (λ names rest. Ok (name ∷ names, rest))

-- variables side by side, and the end of the clause
abbrev pub names : Tokens → Outcome (List Name)
names [] = Err (lack 20 [])
names (t ∷ behind) = if is_clause_end t.kind then Ok ([], behind) else named (variable_of t.kind) (no_variable t.kind) (t ∷ behind) (names behind)

-- one variable at least
abbrev pub some_names : Tokens → Outcome (List Name)
some_names tokens = on_some (behind_end tokens) (names tokens) (λ _. Err (lack 20 tokens))

-- ---- groups and arguments

-- an expression in parentheses; another token is refused by this number
abbrev pub group : ℕ → Tokens → Outcome Expr
group number tokens =
    on_some (left_at tokens) (Err (refusal number tokens)) (λ inside.
    and_then (expression s.Nothing inside) (λ expr others.
    on_some (closed_at others) (Err (refusal 36 others)) (λ rest. Ok (e.Group expr, rest))))

abbrev pub ends_argument : Tokens → Bool
ends_argument [] = false
ends_argument (t ∷ rest) = is_comma t.kind || is_clause_end t.kind

-- an argument of CALL
abbrev pub argument : Tokens → Outcome (Option Expr)
argument tokens = if ends_argument tokens then Ok (None, tokens) else and_then (expression s.Nothing tokens) (λ expr rest. Ok (Some expr, rest))

-- what stands behind one of several that have commas between them: further ones, or the end of the clause. Another token is
-- refused by this number
abbrev pub behind_one : {A : Type 0} → ℕ → (Tokens → Outcome (List A)) → A → Tokens → Outcome (List A)
behind_one number further one [] = Err (refusal number [])
behind_one number further one (t ∷ rest) =
    if is_comma t.kind then and_then (further rest) (λ list others. Ok (one ∷ list, others))
    else (if is_clause_end t.kind then Ok (one ∷ [], rest) else Err (refusal number (t ∷ rest)))

-- some of these with commas between them, one at least, and the end of the clause
abbrev pub separated : {A : Type 0} → ℕ → (Tokens → Outcome A) → ℕ → Tokens → Outcome (List A)
separated number item zero tokens = no_turns
separated number item (suc more) tokens = and_then (item tokens) (λ one behind. behind_one number (λ ts. separated number item more ts) one behind)

-- arguments of CALL with commas between them, and the end of the clause
abbrev pub arguments_from : ℕ → Tokens → Outcome (List (Option Expr))
arguments_from more tokens = separated 21 (λ ts. argument ts) more tokens

abbrev pub arguments : Tokens → Outcome (List (Option Expr))
arguments tokens = on_some (behind_end tokens) (arguments_from (length tokens + 1) tokens) (λ rest. Ok ([], rest))
