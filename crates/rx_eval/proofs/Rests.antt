-- What is left of an expression at a call is of the same form as the expression, or simple.
use Rattle.std.proofs.Common.{◌≡◌, ℕ, ◌⊎◌, inl, inr, Bool, true, false, List, [], ◌∷◌, ◌++◌, Option, Some, None, Result, Ok, Err, ap, subst}
use Rattle.rx_tree.specs.declared.value.Value.{Value}
use Rattle.rx_tree.specs.declared.value.Value.TheVariants.{Str, Ref}
use Rattle.rx_tree.specs.declared.token.Oper.{Oper}
use Rattle.rx_tree.specs.declared.expr.Expr.{Expr}
use Rattle.rx_tree.specs.declared.expr.Expr.TheVariants as e
use Rattle.rx_tree.specs.declared.expr.Expr.TheOpen.{Expr-F}
use Rattle.rx_tree.specs.declared.expr.Expr.TheViews.{out-Expr, roll-Expr, roll-out-Expr}
use Rattle.rx_tree.specs.declared.expr.SendPart.{SendPart}
use Rattle.rx_operators.specs.Families.{is_join}
use Rattle.rx_operators.specs.Operators.{value, prefix_value}
use Rattle.rx_eval.specs.declared.code.Callee.{Callee}
use Rattle.rx_eval.specs.declared.code.Callee.TheVariants as callees
use Rattle.rx_eval.specs.declared.reading.Reading.{Reading}
use Rattle.rx_eval.specs.declared.reading.Reading.TheVariants as r
use Rattle.rx_eval.specs.Reading.{Scene, variable, object_named, symbol}
use Rattle.rx_eval.specs.Calling.{builtin_value, callee, in_text, message, message_of, wants_strings}
use Rattle.rx_eval.specs.Evaluation.{Found, Done, Raise, NoValue, Call, follow, wanted, found_of, found_in, evaluate, operate, operated, operate_before, prefixed, chained, arguments, called, answer, in_scope, of_class, with_args, sent, sent_all, trees_of, behind, behind_layer, before, before_layer, sending, sending_layer}
use Rattle.rx_eval.proofs.Equations.{judged, judged_terms, judged_parts, evaluate_const, evaluate_name, evaluate_environment, evaluate_prefix, evaluate_chain, evaluate_group, evaluate_function, evaluate_sends, evaluate_hole}

-- the form of an expression: 1 with operators before it, 2 a chain, 3 a message term, 0 another
abbrev pub head : Expr-F Expr SendPart → ℕ
head (Expr-F.Prefix opers inner) = 1
head (Expr-F.Chain first terms) = 2
head (Expr-F.Sends receiver parts) = 3
head _ = 0

abbrev pub head_of : Expr → ℕ
head_of x = head (out-Expr x)

-- a claim on what is left at a call
abbrev pub Leaves : (Expr → Type 0) → Found → Type 0
Leaves P (Call sent rest) = P rest
Leaves P _ = Unit {0}

pub leaves_follow : (P : Expr → Type 0) (found : Found) (around : Expr → Expr) (go : Value → Found)
    → ((rest : Expr) → P (around rest)) → ((value : Value) → Leaves P (go value)) → Leaves P (follow found around go)
leaves_follow P (Done value) around go h k = k value
leaves_follow P (Raise number) around go h k = tt
leaves_follow P (NoValue name) around go h k = tt
leaves_follow P (Call sent rest) around go h k = h rest

abbrev pub Mild : ℕ → Expr → Type 0
Mild n rest = (head_of rest ≡ n) ⊎ (head_of rest ≡ 0)

head_hole : head_of e.Hole ≡ 0
head_hole = ap head e.outs-Hole

head_const : (value : Value) → head_of (e.Const value) ≡ 0
head_const value = ap head (e.outs-Const value)

head_prefix : (opers : List Oper) (inner : Expr) → head_of (e.Prefix opers inner) ≡ 1
head_prefix opers inner = ap head (e.outs-Prefix opers inner)

head_chain : (first : Expr) (terms : List (Oper × Expr)) → head_of (e.Chain first terms) ≡ 2
head_chain first terms = ap head (e.outs-Chain first terms)

head_sends : (receiver : Expr) (parts : List SendPart) → head_of (e.Sends receiver parts) ≡ 3
head_sends receiver parts = ap head (e.outs-Sends receiver parts)

head_group : (inner : Expr) → head_of (e.Group inner) ≡ 0
head_group inner = ap head (e.outs-Group inner)

head_function : (name : List ℕ) (is_string : Bool) (args : List (Option Expr)) → head_of (e.Function name is_string args) ≡ 0
head_function name is_string args = ap head (e.outs-Function name is_string args)

head_before_layer : (d : Expr-F Expr SendPart) (oper : Oper) (right : Expr) → head_of (before_layer d oper right) ≡ 1
head_before_layer (Expr-F.Prefix opers inner) oper right = head_prefix (oper ∷ opers) inner
head_before_layer _ oper right = head_prefix (oper ∷ []) right

head_before : (oper : Oper) (right : Expr) → head_of (before oper right) ≡ 1
unfolding before
head_before oper right = head_before_layer (out-Expr right) oper right

head_behind_layer : (d : Expr-F Expr SendPart) (left : Expr) (oper : Oper) (right : Expr) → head_of (behind_layer d left oper right) ≡ 2
head_behind_layer (Expr-F.Chain first terms) left oper right = head_chain first (terms ++ (oper, right) ∷ [])
head_behind_layer _ left oper right = head_chain left ((oper, right) ∷ [])

head_behind : (left : Expr) (oper : Oper) (right : Expr) → head_of (behind left oper right) ≡ 2
unfolding behind
head_behind left oper right = head_behind_layer (out-Expr left) left oper right

head_sending_layer : (d : Expr-F Expr SendPart) (target : Expr) (part : SendPart) → head_of (sending_layer d target part) ≡ 3
head_sending_layer (Expr-F.Sends receiver parts) target part = head_sends receiver (parts ++ part ∷ [])
head_sending_layer _ target part = head_sends target (part ∷ [])

head_sending : (target : Expr) (part : SendPart) → head_of (sending target part) ≡ 3
unfolding sending
head_sending target part = head_sending_layer (out-Expr target) target part

leaves_outcome : (P : Expr → Type 0) (outcome : Result Value ℕ) → Leaves P (found_of outcome)
leaves_outcome P (Ok value) = tt
leaves_outcome P (Err number) = tt

leaves_reading : (P : Expr → Type 0) (reading : Reading) → Leaves P (found_in reading)
leaves_reading P (r.Gives value) = tt
leaves_reading P (r.NoValue name) = tt
leaves_reading P (r.Raises number) = tt

leaves_operate : (digits : ℕ) (oper : Oper) (left right : Value) → Leaves (Mild 2) (operate digits oper left right)
leaves_operate digits oper (Ref object) right = inr head_hole
leaves_operate digits oper (Str left) (Ref object) = inl (head_chain _ _)
leaves_operate digits oper (Str left) (Str right) = leaves_outcome (Mild 2) (in_text (value oper left right digits))

leaves_operate_before : (digits : ℕ) (oper : Oper) (right : Value) → Leaves (Mild 1) (operate_before digits oper right)
leaves_operate_before digits oper (Ref object) = inr head_hole
leaves_operate_before digits oper (Str right) = leaves_outcome (Mild 1) (in_text (prefix_value oper right digits))

leaves_operated : (digits : ℕ) (found : Found) (oper : Oper) (right : Expr × Found) → Leaves (Mild 2) (operated digits found oper right)
leaves_operated digits found oper right =
    leaves_follow (Mild 2) (wanted (is_join oper) found) _ _
    (λ rest. inl (head_behind rest oper right.0))
    (λ left. leaves_follow (Mild 2) right.1 _ _ (λ rest. inl (head_chain (e.Const left) ((oper, rest) ∷ []))) (leaves_operate digits oper left))

leaves_chained : (digits : ℕ) (found : Found) (terms : List (Oper × (Expr × Found))) → Leaves (Mild 2) found → Leaves (Mild 2) (chained digits found terms)
leaves_chained digits found [] h = h
leaves_chained digits found (term ∷ terms) h = leaves_chained digits (operated digits found term.0 term.1) terms (leaves_operated digits found term.0 term.1)

leaves_prefixed : (digits : ℕ) (opers : List Oper) (found : Found) → Leaves (Mild 1) found → Leaves (Mild 1) (prefixed digits opers found)
leaves_prefixed digits [] found h = h
leaves_prefixed digits (oper ∷ opers) found h =
    leaves_follow (Mild 1) (prefixed digits opers found) _ _ (λ rest. inl (head_before oper rest)) (leaves_operate_before digits oper)

leaves_arguments : (P : Expr → Type 0) (strings : Bool) (args : List (Option (Expr × Found))) (around : List (Option Expr) → Expr) (go : List (Option Value) → Found)
    → ((rest : List (Option Expr)) → P (around rest)) → ((values : List (Option Value)) → Leaves P (go values)) → Leaves P (arguments strings args around go)
leaves_arguments P strings [] around go h k = k []
leaves_arguments P strings (None ∷ args) around go h k =
    leaves_arguments P strings args (λ rest. around (None ∷ rest)) (λ values. go (None ∷ values)) (λ rest. h (None ∷ rest)) (λ values. k (None ∷ values))
leaves_arguments P strings (Some arg ∷ args) around go h k =
    leaves_follow P (wanted strings arg.1) _ _ (λ rest. h (Some rest ∷ trees_of args))
    (λ value. leaves_arguments P strings args (λ rest. around (Some (e.Const value) ∷ rest)) (λ values. go (Some value ∷ values))
    (λ rest. h (Some (e.Const value) ∷ rest)) (λ values. k (Some value ∷ values)))

leaves_called : (scene : Scene) (callee : Callee) (name : List ℕ) (values : List (Option Value)) → Leaves (Mild 0) (called scene callee name values)
leaves_called scene callees.Label name values = inr head_hole
leaves_called scene callees.Builtin name values = leaves_outcome (Mild 0) (builtin_value scene.facts name values)
leaves_called scene callees.Routine name values = inr head_hole

leaves_class : (P : Expr → Type 0) (reading : Reading) (go : Option ℕ → Found) → ((scope : Option ℕ) → Leaves P (go scope)) → Leaves P (of_class reading go)
leaves_class P (r.Gives (Str bytes)) go h = tt
leaves_class P (r.Gives (Ref object)) go h = h (Some object)
leaves_class P (r.NoValue name) go h = tt
leaves_class P (r.Raises number) go h = tt

leaves_scope : (P : Expr → Type 0) (scene : Scene) (class : Option (List ℕ)) (go : Option ℕ → Found) → ((scope : Option ℕ) → Leaves P (go scope)) → Leaves P (in_scope scene class go)
leaves_scope P scene None go h = h None
leaves_scope P scene (Some class) go h = leaves_class P (symbol scene.facts class (object_named scene.body class)) go h

leaves_sent : (scene : Scene) (found : Found) (part : SendPart) (args : List (Option (Expr × Found))) → Leaves (Mild 3) (sent scene found part args)
leaves_sent scene found part args =
    leaves_follow (Mild 3) found _ _ (λ rest. inl (head_sending rest part))
    (λ target. leaves_arguments (Mild 3) false args _ _ (λ rest. inl (head_sends (e.Const target) (with_args part rest ∷ [])))
    (λ values. leaves_scope (Mild 3) scene part.above (λ scope. Call (message target (message_of part.name part.bracket) part.back scope values) (answer part.back target)) (λ scope. elim part.back as (λ b. Mild 3 (answer b target)) [ true ↦ inr (head_const target) | false ↦ inr head_hole ])))

leaves_sent_all : (scene : Scene) (found : Found) (parts : List (SendPart × List (Option (Expr × Found)))) → Leaves (Mild 3) found → Leaves (Mild 3) (sent_all scene found parts)
leaves_sent_all scene found [] h = h
leaves_sent_all scene found (part ∷ parts) h = leaves_sent_all scene (sent scene found part.0 part.1) parts (leaves_sent scene found part.0 part.1)

leaves_of : (scene : Scene) (d : Expr-F Expr SendPart) → Leaves (Mild (head d)) (evaluate scene (roll-Expr d))
leaves_of scene (Expr-F.Const value) =
    rw (e.rolls-Const value, evaluate_const scene value) tt
leaves_of scene (Expr-F.Name name) =
    rw (e.rolls-Name name, evaluate_name scene name) (leaves_reading (Mild 0) (variable scene.facts name))
leaves_of scene (Expr-F.Environment name) =
    rw (e.rolls-Environment name, evaluate_environment scene name) tt
leaves_of scene (Expr-F.Prefix opers inner) =
    rw (e.rolls-Prefix opers inner, evaluate_prefix scene opers inner)
    (leaves_prefixed scene.facts.frame.digits opers (follow (evaluate scene inner) (λ rest. e.Prefix [] rest) Done)
    (leaves_follow (Mild 1) (evaluate scene inner) _ _ (λ rest. inl (head_prefix [] rest)) (λ value. tt)))
leaves_of scene (Expr-F.Chain first terms) =
    rw (e.rolls-Chain first terms, evaluate_chain scene first terms)
    (leaves_chained scene.facts.frame.digits (follow (evaluate scene first) (λ rest. e.Chain rest []) Done) (judged_terms scene terms)
    (leaves_follow (Mild 2) (evaluate scene first) _ _ (λ rest. inl (head_chain rest [])) (λ value. tt)))
leaves_of scene (Expr-F.Group inner) =
    rw (e.rolls-Group inner, evaluate_group scene inner)
    (leaves_follow (Mild 0) (evaluate scene inner) _ _ (λ rest. inr (head_group rest)) (λ value. tt))
leaves_of scene (Expr-F.Function name is_string args) =
    rw (e.rolls-Function name is_string args, evaluate_function scene name is_string args)
    (leaves_arguments (Mild 0) (wants_strings (callee scene.body name is_string)) (judged scene args) _ _ (λ rest. inr (head_function name is_string rest)) (leaves_called scene (callee scene.body name is_string) name))
leaves_of scene (Expr-F.Sends receiver parts) =
    rw (e.rolls-Sends receiver parts, evaluate_sends scene receiver parts)
    (leaves_sent_all scene (follow (evaluate scene receiver) (λ rest. e.Sends rest []) Done) (judged_parts scene parts)
    (leaves_follow (Mild 3) (evaluate scene receiver) _ _ (λ rest. inl (head_sends rest [])) (λ value. tt)))
leaves_of scene Expr-F.Hole = rw (e.rolls-Hole, evaluate_hole scene) tt

pub leaves_head : (scene : Scene) (x : Expr) → Leaves (Mild (head_of x)) (evaluate scene x)
leaves_head scene x = subst (λ y. Leaves (Mild (head_of x)) (evaluate scene y)) (roll-out-Expr x) (leaves_of scene (out-Expr x))
