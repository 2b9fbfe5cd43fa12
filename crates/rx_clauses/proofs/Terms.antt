-- Terms with messages: which of them may be assigned to, and which expressions are none.
use Rattle.std.proofs.Common.{◌≡◌, ℕ, Bool, true, false, ◌==◌, List, [], ◌∷◌, ◌++◌, Option, Some, None, refl, sym, ◌∙◌, ap}
use Rattle.rx_tree.specs.declared.token.Oper.{Oper}
use Rattle.rx_tree.specs.declared.token.Oper.TheVariants as o
use Rattle.rx_tree.specs.declared.expr.Expr.{Expr, out-Expr, roll-Expr, roll-out-Expr}
use Rattle.rx_tree.specs.declared.expr.Expr.TheOpen.{Expr-F}
use Rattle.rx_tree.specs.declared.expr.Expr.TheVariants as e
use Rattle.rx_tree.specs.declared.expr.SendPart.{SendPart, out-SendPart}
use Rattle.rx_tree.specs.Operators.{Tokens, level}
use Rattle.rx_tree.specs.Expressions.{first_level, layer_looseness, looseness}
use Rattle.rx_clause_tree.specs.Assignments.{is_assigned, with_messages}
use Rattle.rx_clauses.specs.Starts.{assigned_sends, is_message_term}
use Rattle.rx_clauses.proofs.StartsLaw.{split-is, loose-sends}

pub sends_assigned : (term receiver : Expr) (parts before : List SendPart) (last : SendPart) (rest : Tokens) → term ≡ e.Sends receiver parts
    → parts ≡ before ++ last ∷ [] → is_assigned (out-SendPart last) ≡ true → assigned_sends (out-Expr term) rest ≡ Some ((with_messages receiver before, last), rest)
sends_assigned term receiver parts before last rest is split plain = rw (is, split, e.outs-Sends receiver (before ++ last ∷ []), split-is before last, plain) refl

pub sends_unassigned : (term receiver : Expr) (parts before : List SendPart) (last : SendPart) (rest : Tokens) → term ≡ e.Sends receiver parts
    → parts ≡ before ++ last ∷ [] → is_assigned (out-SendPart last) ≡ false → assigned_sends (out-Expr term) rest ≡ None
sends_unassigned term receiver parts before last rest is split plain = rw (is, split, e.outs-Sends receiver (before ++ last ∷ []), split-is before last, plain) refl

level-high : (oper : Oper) → (level oper == 1) ≡ false
level-high o.Power = refl
level-high o.Times = refl
level-high o.Divide = refl
level-high o.Quotient = refl
level-high o.Remainder = refl
level-high o.Plus = refl
level-high o.Minus = refl
level-high o.Concat = refl
level-high o.Blank = refl
level-high o.Abuttal = refl
level-high o.And = refl
level-high o.Or = refl
level-high o.ExclusiveOr = refl
level-high o.Not = refl
level-high o.Send = refl
level-high o.SendBack = refl
level-high _ = refl

first-high : (terms : List (Oper × Expr)) → (first_level terms == 1) ≡ false
first-high [] = refl
first-high (term ∷ terms) = level-high term.0

pub message_sends : (term receiver : Expr) (parts : List SendPart) → term ≡ e.Sends receiver parts → is_message_term term ≡ true
message_sends term receiver parts is = rw (is, loose-sends receiver parts) refl

pub message_none : (term : Expr) → ((receiver : Expr) (parts : List SendPart) → term ≡ e.Sends receiver parts → ⊥) → is_message_term term ≡ false
unfolding looseness
message_none term no_sends = go (out-Expr term) refl
  where
    go : (layer : Expr-F Expr SendPart) → out-Expr term ≡ layer → (layer_looseness layer == 1) ≡ false
    go (Expr-F.Chain first terms) is = first-high terms
    go (Expr-F.Prefix opers inner) is = refl
    go (Expr-F.Sends receiver parts) is = absurd (no_sends receiver parts (sym (roll-out-Expr term) ∙ ap roll-Expr is ∙ e.rolls-Sends receiver parts))
    go _ is = refl
