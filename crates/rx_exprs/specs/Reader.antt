-- The reader of expressions, which refuses with the number of an error.
use Rattle.std.specs.Prelude.{ℕ, zero, suc, ◌+◌, ◌*◌, true, false, if◌then◌else◌, ◌==◌, List, [], ◌∷◌, ◌++◌, length, Option, Some, None, Result, Ok, Err}
use Rattle.rx_tree.specs.declared.token.Oper.{Oper}
use Rattle.rx_tree.specs.declared.token.TokenKind.{TokenKind}
use Rattle.rx_tree.specs.declared.token.TokenKind.TheVariants as k
use Rattle.rx_tree.specs.declared.expr.Expr.{Expr}
use Rattle.rx_tree.specs.declared.expr.Expr.TheVariants as e
use Rattle.rx_tree.specs.declared.expr.SendPart.{SendPart}
use Rattle.rx_tree.specs.declared.stops.Stops.{Stops}
use Rattle.rx_tree.specs.declared.stops.Stops.TheVariants as s
use Rattle.rx_tree.specs.StopWords.{is_stop}
use Rattle.rx_tree.specs.Operators.{Tokens, level, sign_of, operator_at}
use Rattle.rx_tree.specs.Terms.{term_of, name_of, is_string, class_of, call_at, is_colon}
use Rattle.rx_tree.specs.Expressions.{part}
use Rattle.rx_exprs.specs.declared.refused.Fault.{Fault}
use Rattle.rx_exprs.specs.declared.operators.Opening.{Opening}
use Rattle.rx_exprs.specs.declared.operators.Opening.TheVariants.{Tilde, Bracket}
use Rattle.rx_exprs.specs.declared.operators.Bracketed.{Bracketed}
use Rattle.rx_exprs.specs.declared.operators.Bracketed.TheVariants.{Round, Square}
use Rattle.rx_exprs.specs.declared.operators.End.{End}
use Rattle.rx_exprs.specs.declared.operators.End.TheVariants.{Comma, Close}
use Rattle.rx_exprs.specs.Marks.{is_left, closed_at, opened_at, end_at, ended_at}

-- what was read, and what stands behind it; or a refusal
abbrev pub Outcome : Type 0 → Type 0
Outcome A = Result (A × Tokens) Fault

abbrev pub and_then : {A B : Type 0} → Outcome A → (A → Tokens → Outcome B) → Outcome B
and_then (Ok found) f = f found.0 found.1
and_then (Err fault) f = Err fault

abbrev pub on_some : {A B : Type 0} → Option A → Outcome B → (A → Outcome B) → Outcome B
on_some None other f = other
on_some (Some x) other f = f x

-- ---- refusals

-- the refusal of what stands here by a number
abbrev pub lack : ℕ → Tokens → Fault
lack number tokens = record { left = length tokens; number = number }

-- A comma or a closing bracket is refused as unexpected.
abbrev pub unexpected : ℕ → TokenKind → ℕ
unexpected number k.Comma = 37
unexpected number k.RightParen = 37
unexpected number k.RightBracket = 37
unexpected number _ = number

abbrev pub refusal : ℕ → Tokens → Fault
refusal number [] = lack number []
refusal number (t ∷ behind) = lack (unexpected number t.kind) (t ∷ behind)

-- ---- what the parts make

abbrev pub with_parts : Expr → List SendPart → Expr
with_parts receiver [] = receiver
with_parts receiver (part ∷ parts) = e.Sends receiver (part ∷ parts)

abbrev pub with_signs : List Oper → Expr → Expr
with_signs [] term = term
with_signs (oper ∷ opers) term = e.Prefix (oper ∷ opers) term

abbrev pub with_terms : Expr → List (Oper × Expr) → Expr
with_terms first [] = first
with_terms first (term ∷ terms) = e.Chain first (term ∷ terms)

-- ---- parts without brackets

-- the operators before a term, and what stands behind them
abbrev pub with_sign : Option Oper → List Oper × Tokens → Tokens → List Oper × Tokens
with_sign None later here = ([], here)
with_sign (Some oper) later here = (oper ∷ later.0, later.1)

abbrev pub signs : Tokens → List Oper × Tokens
signs [] = ([], [])
signs (t ∷ behind) = with_sign (sign_of t.kind) (signs behind) (t ∷ behind)

abbrev pub if_level : ℕ → Option (Oper × Tokens) → Option (Oper × Tokens)
if_level n None = None
if_level n (Some found) = if level found.0 == n then Some found else None

-- the operator of a level that stands here
unfoldable pub operator_of : Stops → ℕ → Tokens → Option (Oper × Tokens)
operator_of stops n tokens = if_level n (operator_at stops tokens)

abbrev pub named : Option (List ℕ) → Tokens → Tokens → Outcome (List ℕ)
named None here behind = Err (lack 19 here)
named (Some name) here behind = Ok (name, behind)

-- the name of a message
abbrev pub name_at : Tokens → Outcome (List ℕ)
name_at [] = Err (lack 19 [])
name_at (u ∷ behind) = named (name_of u.kind) (u ∷ behind) behind

abbrev pub classed : Option (List ℕ) → Tokens → Tokens → Outcome (Option (List ℕ))
classed None here behind = Err (lack 20 here)
classed (Some class) here behind = Ok (Some class, behind)

-- the symbol behind the colon of a message
abbrev pub class_at : Tokens → Outcome (Option (List ℕ))
class_at [] = Err (lack 20 [])
class_at (u ∷ behind) = classed (class_of u.kind) (u ∷ behind) behind

-- the colon of a message and its symbol, or nothing
abbrev pub above_at : Tokens → Outcome (Option (List ℕ))
above_at [] = Ok (None, [])
above_at (t ∷ behind) = if is_colon t.kind then class_at behind else Ok (None, t ∷ behind)

-- ---- parts that may have brackets

-- the loosest level, which is that of a whole expression
abbrev pub loosest : ℕ
loosest = 9

-- where the turns are used up, which doesn't come where there are enough
abbrev pub no_turns : {A : Type 0} → Outcome A
no_turns = Err (lack 0 [])

-- The first number bounds the turns: each part has a smaller one.
abbrev mutual
  -- an expression whose operators outside brackets bind at most so loosely
  pub read : ℕ → Stops → ℕ → Tokens → Outcome Expr
  read zero stops n tokens = no_turns
  read (suc more) stops zero tokens = primary more stops tokens
  read (suc more) stops (suc zero) tokens =
      and_then (read more stops zero tokens) (λ receiver behind.
      and_then (parts more [] behind) (λ found rest. Ok (with_parts receiver found, rest)))
  read (suc more) stops (suc (suc zero)) tokens =
      and_then (read more stops (suc zero) (signs tokens).1) (λ term rest. Ok (with_signs (signs tokens).0 term, rest))
  read (suc more) stops (suc (suc (suc n))) tokens =
      and_then (read more stops (suc (suc n)) tokens) (λ first behind.
      and_then (terms more stops n [] behind) (λ found rest. Ok (with_terms first found, rest)))

  -- a term without messages
  pub primary : ℕ → Stops → Tokens → Outcome Expr
  primary zero stops tokens = no_turns
  primary (suc more) stops [] = Err (refusal 35 [])
  primary (suc more) stops (t ∷ behind) =
      if is_left t.kind then
      and_then (read more s.Nothing loosest behind) (λ expr others. on_some (closed_at others) (Err (refusal 36 others)) (λ rest. Ok (e.Group expr, rest)))
      else (if is_stop stops t.kind then Err (refusal 35 (t ∷ behind)) else
      on_some (call_at behind) (on_some (term_of t.kind) (Err (refusal 35 (t ∷ behind))) (λ expr. Ok (expr, behind)))
      (λ tokens. on_some (name_of t.kind) (Err (refusal 35 (t ∷ behind))) (λ name.
      and_then (args more Round tokens) (λ found rest. Ok (e.Function name (is_string t.kind) found, rest)))))

  -- further operators of level n + 3 and their operands, behind those that were found
  pub terms : ℕ → Stops → ℕ → List (Oper × Expr) → Tokens → Outcome (List (Oper × Expr))
  terms zero stops n found tokens = no_turns
  terms (suc more) stops n found tokens =
      on_some (operator_of stops (suc (suc (suc n))) tokens) (Ok (found, tokens)) (λ oper.
      and_then (read more stops (suc (suc n)) oper.1) (λ expr rest. terms more stops n (found ++ (oper.0, expr) ∷ []) rest))

  -- further messages
  pub parts : ℕ → List SendPart → Tokens → Outcome (List SendPart)
  parts zero found tokens = no_turns
  parts (suc more) found tokens =
      on_some (opened_at tokens) (Ok (found, tokens)) (λ opening.
      and_then (one_part more opening.0 opening.1) (λ one rest. parts more (found ++ one ∷ []) rest))

  -- a message behind what it begins with
  pub one_part : ℕ → Opening → Tokens → Outcome SendPart
  one_part zero opening tokens = no_turns
  one_part (suc more) (Tilde back) tokens =
      and_then (name_at tokens) (λ name behind.
      and_then (above_at behind) (λ class others.
      and_then (call_args more others) (λ list rest. Ok (part name class list back false, rest))))
  one_part (suc more) Bracket tokens = and_then (args more Square tokens) (λ list rest. Ok (part [] None list false true, rest))

  -- the arguments directly behind a message's name, or none
  pub call_args : ℕ → Tokens → Outcome (List (Option Expr))
  call_args zero tokens = no_turns
  call_args (suc more) tokens = on_some (call_at tokens) (Ok ([], tokens)) (λ inside. args more Round inside)

  -- the arguments up to the closing bracket
  pub args : ℕ → Bracketed → Tokens → Outcome (List (Option Expr))
  args zero bracketed tokens = no_turns
  args (suc more) bracketed tokens = on_some (ended_at bracketed tokens) (listed more bracketed [] tokens) (λ rest. Ok ([], rest))

  pub listed : ℕ → Bracketed → List (Option Expr) → Tokens → Outcome (List (Option Expr))
  listed zero bracketed found tokens = no_turns
  listed (suc more) bracketed found tokens =
      and_then (argument more bracketed tokens) (λ arg behind.
      on_some (end_at bracketed behind) (Err (refusal 36 behind)) (λ end. next more bracketed (found ++ arg ∷ []) end.0 end.1))

  pub next : ℕ → Bracketed → List (Option Expr) → End → Tokens → Outcome (List (Option Expr))
  next zero bracketed found end rest = no_turns
  next (suc more) bracketed found Comma rest = listed more bracketed found rest
  next (suc more) bracketed found Close rest = Ok (found, rest)

  -- an argument, which is omitted where one ends
  pub argument : ℕ → Bracketed → Tokens → Outcome (Option Expr)
  argument zero bracketed tokens = no_turns
  argument (suc more) bracketed tokens =
      on_some (end_at bracketed tokens) (and_then (read more s.Nothing loosest tokens) (λ expr rest. Ok (Some expr, rest)))
      (λ _. Ok (None, tokens))

-- turns enough for an expression at these tokens
abbrev pub turns : Tokens → ℕ
turns tokens = 16 * length tokens + 16

-- the reader of expressions
unfoldable pub expression : Stops → Tokens → Outcome Expr
expression stops tokens = read (turns tokens) stops loosest tokens
