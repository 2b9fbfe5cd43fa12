-- Labels, assignments and message clauses: which tokens they are written with.
use Rattle.std.specs.Prelude.{◌≡◌, ℕ, Bool, true, false, ◌||◌, ◌&&◌, not, List, [], ◌∷◌, ◌++◌, Option, Some, None}
use Rattle.rx_tree.specs.declared.name.Name.{Name}
use Rattle.rx_tree.specs.declared.token.Oper.{Oper}
use Rattle.rx_tree.specs.declared.token.Token.{Token}
use Rattle.rx_tree.specs.declared.expr.Expr.{Expr}
use Rattle.rx_tree.specs.declared.expr.Expr.TheVariants as e
use Rattle.rx_tree.specs.declared.expr.SendPart.{SendPart, out-SendPart}
use Rattle.rx_tree.specs.declared.expr.Expr.TheOpen.{SendPart-F}
use Rattle.rx_clause_tree.specs.declared.simple.Simple.{Simple}
use Rattle.rx_clause_tree.specs.declared.simple.Simple.TheVariants as c
use Rattle.rx_tree.specs.declared.stops.Stops.TheVariants.{Nothing}
use Rattle.rx_tree.specs.Operators.{Tokens}
use Rattle.rx_tree.specs.Terms.{is_colon}
use Rattle.rx_tree.specs.Expressions.{IsSpelt, looseness, Fits}
use Rattle.rx_clause_tree.specs.ClauseWords.{variable_of, symbol_of, is_clause_end, skip, is_equal, assigning_of}

-- ---- the end of a clause

-- an expression, and the end of the clause
pub data IsLastExpression : Expr → Tokens → Tokens → Type 0 where
  to_end : {expr : Expr} {tokens rest : Tokens} (t : Token) → Fits Nothing tokens expr (t ∷ rest) → is_clause_end t.kind ≡ true
      → IsLastExpression expr tokens rest

-- an expression that may be omitted, and the end of the clause
pub data IsGiven : Option Expr → Tokens → Tokens → Type 0 where
  no_expression : {rest : Tokens} (t : Token) → is_clause_end t.kind ≡ true → IsGiven None (t ∷ rest) rest
  expression : {expr : Expr} {tokens rest : Tokens} → IsLastExpression expr tokens rest → IsGiven (Some expr) tokens rest

-- ---- assignments

-- `x += 1` is the assignment of `x + (1)`
abbrev pub with_operator : Name → Oper → Expr → Expr
with_operator name oper expr = e.Chain (e.Name name) ((oper, e.Group expr) ∷ [])

pub data IsAssignment : Simple → Tokens → Tokens → Type 0 where
  -- `variable = e`
  assign : {name : Name} {expr : Expr} {tokens rest : Tokens} (t u : Token) → variable_of t.kind ≡ Some name → is_equal u.kind ≡ true
      → IsLastExpression expr tokens rest → IsAssignment (c.Assign name expr) (t ∷ (u ∷ tokens)) rest
  -- `variable += e`, where the operator and `=` stand side by side
  assign_with : {name : Name} {oper : Oper} {expr : Expr} {tokens rest : Tokens} (t u v : Token) → variable_of t.kind ≡ Some name
      → assigning_of u.kind ≡ Some oper → is_equal v.kind ≡ true → v.blank ≡ false → IsLastExpression expr tokens rest
      → IsAssignment (c.Assign name (with_operator name oper expr)) (t ∷ (u ∷ (v ∷ tokens))) rest

-- ---- assignments by a message

-- a message that `=` makes an assignment of: `[args]`, or `~name` without arguments and class scope
abbrev pub is_plain : {X : Type 0} → Option X → List (Option Expr) → Bool
is_plain None [] = true
is_plain _ _ = false

abbrev pub is_assigned : SendPart-F Expr SendPart → Bool
is_assigned part = part.bracket || (is_plain part.above part.args && not part.back)

-- the messages before the last
abbrev pub with_messages : Expr → List SendPart → Expr
with_messages receiver [] = receiver
with_messages receiver (part ∷ parts) = e.Sends receiver (part ∷ parts)

-- A term with messages that `=` stands behind: its receiver and the messages before the last, its last message, and what
-- stands behind the `=`.
pub data IsAssignedTerm : Expr → SendPart → Tokens → Tokens → Type 0 where
  assigned : {tokens rest : Tokens} (receiver : Expr) (before : List SendPart) (last : SendPart) (u : Token)
      → IsSpelt Nothing (e.Sends receiver (before ++ last ∷ [])) tokens (u ∷ rest) → is_assigned (out-SendPart last) ≡ true
      → is_equal u.kind ≡ true → IsAssignedTerm (with_messages receiver before) last tokens rest

-- `term~name = e` and `term[args] = e`
pub data IsSendAssign : Simple → Tokens → Tokens → Type 0 where
  send_assign : {receiver expr : Expr} {part : SendPart} {tokens behind rest : Tokens} → IsAssignedTerm receiver part tokens behind
      → IsLastExpression expr behind rest → IsSendAssign (c.SendAssign receiver part expr) tokens rest

abbrev pub BeginsNoSendAssign : Tokens → Type 0
BeginsNoSendAssign tokens = (receiver : Expr) (part : SendPart) (rest : Tokens) → IsAssignedTerm receiver part tokens rest → ⊥

-- ---- labels and message clauses

-- a symbol and a colon, and a clause end where one stands behind them
pub data IsLabel : Simple → Tokens → Tokens → Type 0 where
  label : {rest : Tokens} (t u : Token) (name : List ℕ) → symbol_of t.kind ≡ Some name → is_colon u.kind ≡ true
      → IsLabel (c.Label name) (t ∷ (u ∷ rest)) (skip rest)

-- a term with one message at least
pub data IsMessage : Simple → Tokens → Tokens → Type 0 where
  message : {term : Expr} {tokens rest : Tokens} → IsLastExpression term tokens rest → looseness term ≡ 1
      → IsMessage (c.Message term) tokens rest
