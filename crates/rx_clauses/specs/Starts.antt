-- What a clause that isn't an instruction is read as.
use Rattle.std.specs.Prelude.{◌≡◌, ℕ, Bool, ◌||◌, ◌&&◌, not, if◌then◌else◌, ◌==◌, List, [], ◌∷◌, Option, Some, None, Ok, Err, codes}
use Rattle.rx_tree.specs.declared.name.Name.{Name}
use Rattle.rx_tree.specs.declared.token.Oper.{Oper}
use Rattle.rx_tree.specs.declared.expr.Expr.{Expr, out-Expr}
use Rattle.rx_tree.specs.declared.expr.Expr.TheOpen.{Expr-F}
use Rattle.rx_tree.specs.declared.expr.SendPart.{SendPart, out-SendPart}
use Rattle.rx_tree.specs.declared.stops.Stops.TheVariants as s
use Rattle.rx_tree.specs.Operators.{Tokens}
use Rattle.rx_tree.specs.Expressions.{looseness}
use Rattle.rx_exprs.specs.Reader.{Outcome, and_then, lack, refusal}
use Rattle.rx_exprs.specs.Forms.{level_form}
use Rattle.rx_clause_tree.specs.declared.simple.Simple.{Simple}
use Rattle.rx_clause_tree.specs.declared.simple.Simple.TheVariants as c
use Rattle.rx_clause_tree.specs.ClauseWords.{variable_of, is_word, is_equal, assigning_of}
use Rattle.rx_clause_tree.specs.Assignments.{with_operator, is_assigned, with_messages}
use Rattle.rx_clauses.specs.Parts.{last_expression}

-- ---- assignments

-- `=` directly behind the operator of an assignment, and the expression
abbrev pub assign_by : Name → Oper → Tokens → Outcome Simple
assign_by name oper [] = Err (refusal 35 [])
assign_by name oper (v ∷ tokens) =
    if is_equal v.kind && not v.blank then and_then (last_expression tokens) (λ expr rest. Ok (c.Assign name (with_operator name oper expr), rest))
    else Err (refusal 35 (v ∷ tokens))

abbrev pub assign_with : Name → Option Oper → Tokens → Tokens → Outcome Simple
assign_with name None here tokens = Err (refusal 35 here)
assign_with name (Some oper) here tokens = assign_by name oper tokens

-- what stands behind the variable of an assignment
abbrev pub assign_to : Name → Tokens → Outcome Simple
assign_to name [] = Err (refusal 35 [])
assign_to name (u ∷ tokens) =
    if is_equal u.kind then and_then (last_expression tokens) (λ expr rest. Ok (c.Assign name expr, rest))
    else assign_with name (assigning_of u.kind) (u ∷ tokens) tokens

abbrev pub assign : Option Name → Tokens → Outcome Simple
assign None behind = Err (refusal 35 behind)
assign (Some name) behind = assign_to name behind

abbrev pub assignment : Tokens → Outcome Simple
assignment [] = Err (refusal 35 [])
assignment (t ∷ behind) = assign (variable_of t.kind) behind

-- ---- assignments by a message

abbrev pub split_more : SendPart → Option (List SendPart × SendPart) → Option (List SendPart × SendPart)
split_more part None = None
split_more part (Some found) = Some (part ∷ found.0, found.1)

abbrev pub split_behind : SendPart → List SendPart → Option (List SendPart × SendPart)
split_behind part [] = Some ([], part)
split_behind part (next ∷ parts) = split_more part (split_behind next parts)

-- a list without its last, and its last
abbrev pub split_last : List SendPart → Option (List SendPart × SendPart)
split_last [] = None
split_last (part ∷ parts) = split_behind part parts

-- the receiver of a term, the messages before the last, and the last
abbrev pub Assigned : Type 0
Assigned = Expr × SendPart

abbrev pub if_assigned : Expr → Option (List SendPart × SendPart) → Tokens → Option (Assigned × Tokens)
if_assigned receiver None rest = None
if_assigned receiver (Some found) rest = if is_assigned (out-SendPart found.1) then Some ((with_messages receiver found.0, found.1), rest) else None

abbrev pub assigned_sends : Expr-F Expr SendPart → Tokens → Option (Assigned × Tokens)
assigned_sends (Expr-F.Sends receiver parts) rest = if_assigned receiver (split_last parts) rest
assigned_sends _ rest = None

abbrev pub assigned_term : Expr → Tokens → Option (Assigned × Tokens)
assigned_term term [] = None
assigned_term term (u ∷ rest) = if is_equal u.kind then assigned_sends (out-Expr term) rest else None

abbrev pub if_read : Outcome Expr → Option (Assigned × Tokens)
if_read (Ok found) = assigned_term found.0 found.1
if_read (Err fault) = None

-- the term of an assignment by a message, and what stands behind its `=`
unfoldable pub assigned_at : Tokens → Option (Assigned × Tokens)
assigned_at tokens = if_read (level_form s.Nothing 1 tokens)

-- the term that was read, or none
abbrev pub IsRead : Outcome Expr → Option Expr → Tokens → Type 0
IsRead outcome (Some term) new = outcome ≡ Ok (term, new)
IsRead outcome None new = if_read outcome ≡ None

-- something is found, and what stands behind it; or nothing is
abbrev pub IsTaken : Option (Assigned × Tokens) → Option Assigned → Tokens → Type 0
IsTaken found (Some one) new = found ≡ Some (one, new)
IsTaken found None new = found ≡ None

abbrev pub behind_it : Tokens → Option Assigned → Option (Assigned × Tokens)
behind_it rest None = None
behind_it rest (Some one) = Some (one, rest)

-- what a layer of a term gives where it is assigned to, whatever stands behind it
abbrev pub IsSplit : Expr-F Expr SendPart → Option Assigned → Type 0
IsSplit layer found = (rest : Tokens) → assigned_sends layer rest ≡ behind_it rest found

-- whether an expression is a term with messages
abbrev pub is_message_term : Expr → Bool
is_message_term term = looseness term == 1

abbrev pub send_assign : Assigned → Tokens → Outcome Simple
send_assign term tokens = and_then (last_expression tokens) (λ expr rest. Ok (c.SendAssign term.0 term.1 expr, rest))

-- ---- message clauses

-- the number that a clause is refused by which is no message term: that of its first word where blocks have it, else 35
abbrev pub no_clause_word : Tokens → ℕ
no_clause_word [] = 35
no_clause_word (t ∷ behind) =
    if is_word (codes "THEN") t.kind || is_word (codes "ELSE") t.kind then 8
    else (if is_word (codes "WHEN") t.kind || is_word (codes "OTHERWISE") t.kind then 9
    else (if is_word (codes "END") t.kind then 10 else 35))

abbrev pub message : Tokens → Outcome Simple
message tokens =
    and_then (last_expression tokens) (λ term rest.
    if is_message_term term then Ok (c.Message term, rest) else Err (lack (no_clause_word tokens) tokens))
