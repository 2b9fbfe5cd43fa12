-- Filling the hole of the trees behind a call is pushing the answer.
use Rattle.std.proofs.Common.{◌≡◌, ℕ, Bool, true, false, List, [], ◌∷◌, ◌++◌, map, reverse, take, drop, Option, Some, None, refl, ap, sym, ◌∙◌, subst, ⊎_elim}
use Rattle.rx_tree.specs.declared.value.Value.{Value}
use Rattle.rx_tree.specs.declared.token.Oper.{Oper}
use Rattle.rx_tree.specs.declared.name.Name.{Name}
use Rattle.rx_tree.specs.declared.expr.Expr.{Expr}
use Rattle.rx_tree.specs.declared.expr.Expr.TheVariants as e
use Rattle.rx_tree.specs.declared.expr.Expr.TheOpen.{Expr-F}
use Rattle.rx_tree.specs.declared.expr.Expr.TheShapes.{former-Expr-Function-2, former-Expr-Sends-1}
use Rattle.rx_tree.specs.declared.expr.Expr.TheViews.{out-Expr, roll-Expr, roll-out-Expr, out-SendPart, roll-SendPart, roll-out-SendPart}
use Rattle.rx_tree.specs.declared.expr.Expr.TheFolds.{fold-Expr, fold-SendPart, fold-roll-Expr, fold-roll-SendPart}
use Rattle.rx_tree.specs.declared.expr.SendPart.{SendPart}
use Rattle.rx_tree.specs.declared.expr.SendPart.{rolls-SendPart', map-SendPart}
use mathlib.Core.List.{reverse_aux}
use Rattle.rx_eval.specs.declared.code.Form.TheVariants as form
use Rattle.rx_eval.specs.declared.code.Instr.{Instr}
use Rattle.rx_eval.specs.declared.code.Sending.{Sending}
use Rattle.rx_eval.specs.declared.code.Instr.TheVariants as i
use Rattle.rx_eval.specs.Places.{Trees, taking, with_function, with_send, part_of, made, made_by, replaced, standing, rest_at, partial, with_hole, with_answer}
use Rattle.rx_eval.specs.Evaluation.{behind, before, sending}
use Rattle.rx_eval.proofs.Rests.{head, head_of}
use Rattle.rx_eval.proofs.Contexts.{behind_chain, behind_other, before_prefix, before_other, sending_sends, sending_other, chain_or, prefix_or, sends_or}
use Rattle.rx_eval.specs.Filling.{filled, filled_level, filled_all}

filled_args : Value → List (Option Expr) → List (Option Expr)
filled_args answer [] = []
filled_args answer (None ∷ args) = None ∷ filled_args answer args
filled_args answer (Some arg ∷ args) = Some (filled answer arg) ∷ filled_args answer args

args_are : (answer : Value) (args : List (Option Expr)) → former-Expr-Function-2.map Expr Expr (filled answer) args ≡ filled_args answer args
unfolding filled_args
args_are answer [] = refl
args_are answer (None ∷ args) = ap (λ rest. None ∷ rest) (args_are answer args)
args_are answer (Some arg ∷ args) = ap (λ rest. Some (filled answer arg) ∷ rest) (args_are answer args)

filled_part : Value → SendPart → SendPart
filled_part answer part = record { name = part.name; above = part.above; args = filled_args answer part.args; back = part.back; bracket = part.bracket }

part_is : (answer : Value) (part : SendPart) → fold-SendPart Expr SendPart (filled_level answer) roll-SendPart part ≡ filled_part answer part
unfolding filled filled_part
part_is answer part =
    ap (fold-SendPart Expr SendPart (filled_level answer) roll-SendPart) (sym (roll-out-SendPart part))
    ∙ fold-roll-SendPart Expr SendPart (filled_level answer) roll-SendPart (out-SendPart part)
    ∙ rolls-SendPart' (map-SendPart Expr SendPart Expr SendPart (fold-Expr Expr SendPart (filled_level answer) roll-SendPart) (fold-SendPart Expr SendPart (filled_level answer) roll-SendPart) (out-SendPart part))
    ∙ ap (λ args. record { name = part.name; above = part.above; args = args; back = part.back; bracket = part.bracket }) (args_are answer part.args)

filled_parts : Value → List SendPart → List SendPart
filled_parts answer parts = map (filled_part answer) parts

parts_are : (answer : Value) (parts : List SendPart) → former-Expr-Sends-1.map SendPart SendPart (fold-SendPart Expr SendPart (filled_level answer) roll-SendPart) parts ≡ filled_parts answer parts
unfolding filled_parts
parts_are answer [] = refl
parts_are answer (part ∷ parts) =
    ap (λ p. p ∷ former-Expr-Sends-1.map SendPart SendPart (fold-SendPart Expr SendPart (filled_level answer) roll-SendPart) parts) (part_is answer part)
    ∙ ap (λ rest. filled_part answer part ∷ rest) (parts_are answer parts)

filled_terms : Value → List (Oper × Expr) → List (Oper × Expr)
filled_terms answer terms = map (λ x. (x.0, filled answer x.1)) terms

pub filled_const : (answer value : Value) → filled answer (e.Const value) ≡ e.Const value
unfolding filled
filled_const answer value = ap (filled answer) (sym (e.rolls-Const value)) ∙ fold-roll-Expr Expr SendPart (filled_level answer) roll-SendPart (Expr-F.Const value) ∙ e.rolls-Const value

pub filled_hole : (answer : Value) → filled answer e.Hole ≡ e.Const answer
unfolding filled
filled_hole answer = ap (filled answer) (sym e.rolls-Hole) ∙ fold-roll-Expr Expr SendPart (filled_level answer) roll-SendPart Expr-F.Hole

filled_name : (answer : Value) (name : Name) → filled answer (e.Name name) ≡ e.Name name
unfolding filled
filled_name answer name = ap (filled answer) (sym (e.rolls-Name name)) ∙ fold-roll-Expr Expr SendPart (filled_level answer) roll-SendPart (Expr-F.Name name) ∙ e.rolls-Name name

filled_environment : (answer : Value) (name : List ℕ) → filled answer (e.Environment name) ≡ e.Environment name
unfolding filled
filled_environment answer name = ap (filled answer) (sym (e.rolls-Environment name)) ∙ fold-roll-Expr Expr SendPart (filled_level answer) roll-SendPart (Expr-F.Environment name) ∙ e.rolls-Environment name

filled_prefix : (answer : Value) (opers : List Oper) (inner : Expr) → filled answer (e.Prefix opers inner) ≡ e.Prefix opers (filled answer inner)
unfolding filled
filled_prefix answer opers inner =
    ap (filled answer) (sym (e.rolls-Prefix opers inner)) ∙ fold-roll-Expr Expr SendPart (filled_level answer) roll-SendPart (Expr-F.Prefix opers inner) ∙ e.rolls-Prefix opers (filled answer inner)

filled_chain : (answer : Value) (first : Expr) (terms : List (Oper × Expr)) → filled answer (e.Chain first terms) ≡ e.Chain (filled answer first) (filled_terms answer terms)
unfolding filled filled_terms
filled_chain answer first terms =
    ap (filled answer) (sym (e.rolls-Chain first terms)) ∙ fold-roll-Expr Expr SendPart (filled_level answer) roll-SendPart (Expr-F.Chain first terms)
    ∙ e.rolls-Chain (filled answer first) (map (λ x. (x.0, filled answer x.1)) terms)

filled_group : (answer : Value) (inner : Expr) → filled answer (e.Group inner) ≡ e.Group (filled answer inner)
unfolding filled
filled_group answer inner = ap (filled answer) (sym (e.rolls-Group inner)) ∙ fold-roll-Expr Expr SendPart (filled_level answer) roll-SendPart (Expr-F.Group inner) ∙ e.rolls-Group (filled answer inner)

filled_function : (answer : Value) (name : List ℕ) (is_string : Bool) (args : List (Option Expr)) → filled answer (e.Function name is_string args) ≡ e.Function name is_string (filled_args answer args)
unfolding filled
filled_function answer name is_string args =
    ap (filled answer) (sym (e.rolls-Function name is_string args)) ∙ fold-roll-Expr Expr SendPart (filled_level answer) roll-SendPart (Expr-F.Function name is_string args)
    ∙ ap (λ all. roll-Expr (Expr-F.Function name is_string all)) (args_are answer args) ∙ e.rolls-Function name is_string (filled_args answer args)

filled_sends : (answer : Value) (receiver : Expr) (parts : List SendPart) → filled answer (e.Sends receiver parts) ≡ e.Sends (filled answer receiver) (filled_parts answer parts)
unfolding filled
filled_sends answer receiver parts =
    ap (filled answer) (sym (e.rolls-Sends receiver parts)) ∙ fold-roll-Expr Expr SendPart (filled_level answer) roll-SendPart (Expr-F.Sends receiver parts)
    ∙ ap (λ all. roll-Expr (Expr-F.Sends (filled answer receiver) all)) (parts_are answer parts) ∙ e.rolls-Sends (filled answer receiver) (filled_parts answer parts)

-- what a filled expression is, by its layer: a hole becomes a constant, and no expression becomes another form

filled_head : (answer : Value) (d : Expr-F Expr SendPart) → head_of (filled answer (roll-Expr d)) ≡ head d
filled_head answer (Expr-F.Const value) = rw (e.rolls-Const value, filled_const answer value) (ap head (e.outs-Const value))
filled_head answer (Expr-F.Name name) = rw (e.rolls-Name name, filled_name answer name) (ap head (e.outs-Name name))
filled_head answer (Expr-F.Environment name) = rw (e.rolls-Environment name, filled_environment answer name) (ap head (e.outs-Environment name))
filled_head answer (Expr-F.Prefix opers inner) = rw (e.rolls-Prefix opers inner, filled_prefix answer opers inner) (ap head (e.outs-Prefix opers (filled answer inner)))
filled_head answer (Expr-F.Chain first terms) = rw (e.rolls-Chain first terms, filled_chain answer first terms) (ap head (e.outs-Chain (filled answer first) (filled_terms answer terms)))
filled_head answer (Expr-F.Group inner) = rw (e.rolls-Group inner, filled_group answer inner) (ap head (e.outs-Group (filled answer inner)))
filled_head answer (Expr-F.Function name is_string args) = rw (e.rolls-Function name is_string args, filled_function answer name is_string args) (ap head (e.outs-Function name is_string (filled_args answer args)))
filled_head answer (Expr-F.Sends receiver parts) = rw (e.rolls-Sends receiver parts, filled_sends answer receiver parts) (ap head (e.outs-Sends (filled answer receiver) (filled_parts answer parts)))
filled_head answer Expr-F.Hole = rw (e.rolls-Hole, filled_hole answer) (ap head (e.outs-Const answer))

same_head : (answer : Value) (x : Expr) → head_of (filled answer x) ≡ head_of x
same_head answer x = subst (λ y. head_of (filled answer y) ≡ head_of x) (roll-out-Expr x) (filled_head answer (out-Expr x))

map_more : {X Y : Type 0} (f : X → Y) (xs : List X) (x : X) → map f (xs ++ x ∷ []) ≡ map f xs ++ f x ∷ []
map_more f [] x = refl
map_more f (y ∷ xs) x = ap (λ rest. f y ∷ rest) (map_more f xs x)

filled_behind_chain : (answer : Value) (first : Expr) (terms : List (Oper × Expr)) (oper : Oper) (right : Expr)
    → filled answer (behind (e.Chain first terms) oper right) ≡ behind (filled answer (e.Chain first terms)) oper (filled answer right)
unfolding filled_terms
filled_behind_chain answer first terms oper right =
    ap (filled answer) (behind_chain first terms oper right) ∙ filled_chain answer first (terms ++ (oper, right) ∷ [])
    ∙ ap (e.Chain (filled answer first)) (map_more (λ x. (x.0, filled answer x.1)) terms (oper, right))
    ∙ sym (behind_chain (filled answer first) (filled_terms answer terms) oper (filled answer right))
    ∙ ap (λ y. behind y oper (filled answer right)) (sym (filled_chain answer first terms))

filled_behind_other : (answer : Value) (left : Expr) (oper : Oper) (right : Expr) → (head_of left ≡ 2 → ⊥)
    → filled answer (behind left oper right) ≡ behind (filled answer left) oper (filled answer right)
unfolding filled_terms
filled_behind_other answer left oper right h =
    ap (filled answer) (behind_other left oper right h) ∙ filled_chain answer left ((oper, right) ∷ [])
    ∙ sym (behind_other (filled answer left) oper (filled answer right) (λ p. h (sym (same_head answer left) ∙ p)))

filled_behind : (answer : Value) (left : Expr) (oper : Oper) (right : Expr) → filled answer (behind left oper right) ≡ behind (filled answer left) oper (filled answer right)
filled_behind answer left oper right =
    ⊎_elim
    (λ t. subst (λ y. filled answer (behind y oper right) ≡ behind (filled answer y) oper (filled answer right))
    (sym (sym (roll-out-Expr left) ∙ ap roll-Expr t.2 ∙ e.rolls-Chain t.0 t.1)) (filled_behind_chain answer t.0 t.1 oper right))
    (λ h. filled_behind_other answer left oper right h)
    (chain_or (out-Expr left))

filled_before : (answer : Value) (oper : Oper) (right : Expr) → filled answer (before oper right) ≡ before oper (filled answer right)
filled_before answer oper right =
    ⊎_elim
    (λ t. subst (λ y. filled answer (before oper y) ≡ before oper (filled answer y)) (sym (sym (roll-out-Expr right) ∙ ap roll-Expr t.2 ∙ e.rolls-Prefix t.0 t.1))
    (ap (filled answer) (before_prefix oper t.0 t.1) ∙ filled_prefix answer (oper ∷ t.0) t.1 ∙ sym (before_prefix oper t.0 (filled answer t.1)) ∙ ap (before oper) (sym (filled_prefix answer t.0 t.1))))
    (λ h. ap (filled answer) (before_other oper right h) ∙ filled_prefix answer (oper ∷ []) right
    ∙ sym (before_other oper (filled answer right) (λ p. h (sym (same_head answer right) ∙ p))))
    (prefix_or (out-Expr right))

filled_sending_sends : (answer : Value) (receiver : Expr) (parts : List SendPart) (part : SendPart)
    → filled answer (sending (e.Sends receiver parts) part) ≡ sending (filled answer (e.Sends receiver parts)) (filled_part answer part)
unfolding filled_parts
filled_sending_sends answer receiver parts part =
    ap (filled answer) (sending_sends receiver parts part) ∙ filled_sends answer receiver (parts ++ part ∷ [])
    ∙ ap (e.Sends (filled answer receiver)) (map_more (filled_part answer) parts part)
    ∙ sym (sending_sends (filled answer receiver) (filled_parts answer parts) (filled_part answer part))
    ∙ ap (λ y. sending y (filled_part answer part)) (sym (filled_sends answer receiver parts))

filled_sending_other : (answer : Value) (target : Expr) (part : SendPart) → (head_of target ≡ 3 → ⊥)
    → filled answer (sending target part) ≡ sending (filled answer target) (filled_part answer part)
unfolding filled_parts
filled_sending_other answer target part h =
    ap (filled answer) (sending_other target part h) ∙ filled_sends answer target (part ∷ [])
    ∙ sym (sending_other (filled answer target) (filled_part answer part) (λ p. h (sym (same_head answer target) ∙ p)))

filled_sending : (answer : Value) (target : Expr) (part : SendPart) → filled answer (sending target part) ≡ sending (filled answer target) (filled_part answer part)
filled_sending answer target part =
    ⊎_elim
    (λ t. subst (λ y. filled answer (sending y part) ≡ sending (filled answer y) (filled_part answer part))
    (sym (sym (roll-out-Expr target) ∙ ap roll-Expr t.2 ∙ e.rolls-Sends t.0 t.1)) (filled_sending_sends answer t.0 t.1 part))
    (λ h. filled_sending_other answer target part h)
    (sends_or (out-Expr target))

-- Code has no holes of its own, so what it makes of filled trees is filled.

filled_taking : (answer : Value) (go : List (Option Expr) → Trees → Trees)
    → ((args : List (Option Expr)) (trees : Trees) → filled_all answer (go args trees) ≡ go (filled_args answer args) (filled_all answer trees))
    → (shape : List Bool) (trees : Trees) (args : List (Option Expr)) → filled_all answer (taking shape trees args go) ≡ taking shape (filled_all answer trees) (filled_args answer args) go
unfolding filled_args
filled_taking answer go h [] trees args = h args trees
filled_taking answer go h (false ∷ shape) trees args = filled_taking answer go h shape trees (None ∷ args)
filled_taking answer go h (true ∷ shape) [] args = refl
filled_taking answer go h (true ∷ shape) (tree ∷ trees) args = filled_taking answer go h shape trees (Some tree.0 ∷ args)

filled_with_send : (answer : Value) (send : Sending) (args : List (Option Expr)) (trees : Trees)
    → filled_all answer (with_send send args trees) ≡ with_send send (filled_args answer args) (filled_all answer trees)
unfolding filled_part
filled_with_send answer send args [] = refl
filled_with_send answer send args (tree ∷ trees) = ap (λ y. (y, false) ∷ filled_all answer trees) (filled_sending answer tree.0 (part_of send args))

filled_made : (answer : Value) (instr : Instr) (trees : Trees) → filled_all answer (made instr trees) ≡ made instr (filled_all answer trees)
unfolding filled_args filled_terms filled_parts
filled_made answer (i.Const value) trees = ap (λ y. (y, false) ∷ filled_all answer trees) (filled_const answer value)
filled_made answer (i.Name name) trees = ap (λ y. (y, false) ∷ filled_all answer trees) (filled_name answer name)
filled_made answer (i.Environment name object) trees = ap (λ y. (y, false) ∷ filled_all answer trees) (filled_environment answer name)
filled_made answer (i.Begin f) [] = refl
filled_made answer (i.Begin form.Prefix) (tree ∷ trees) = ap (λ y. (y, false) ∷ filled_all answer trees) (filled_prefix answer [] tree.0)
filled_made answer (i.Begin form.Chain) (tree ∷ trees) = ap (λ y. (y, false) ∷ filled_all answer trees) (filled_chain answer tree.0 [])
filled_made answer (i.Begin form.Sends) (tree ∷ trees) = ap (λ y. (y, false) ∷ filled_all answer trees) (filled_sends answer tree.0 [])
filled_made answer (i.Oper oper) [] = refl
filled_made answer (i.Oper oper) (right ∷ []) = refl
filled_made answer (i.Oper oper) (right ∷ left ∷ trees) = ap (λ y. (y, false) ∷ filled_all answer trees) (filled_behind answer left.0 oper right.0)
filled_made answer (i.Prefix oper) [] = refl
filled_made answer (i.Prefix oper) (tree ∷ trees) = ap (λ y. (y, false) ∷ filled_all answer trees) (filled_before answer oper tree.0)
filled_made answer i.Group [] = refl
filled_made answer i.Group (tree ∷ trees) = ap (λ y. (y, false) ∷ filled_all answer trees) (filled_group answer tree.0)
filled_made answer (i.Function call) trees =
    filled_taking answer (with_function call) (λ args rest. ap (λ y. (y, false) ∷ filled_all answer rest) (filled_function answer call.name call.is_string args)) call.shape trees []
filled_made answer (i.Send send) trees = filled_taking answer (with_send send) (filled_with_send answer send) send.shape trees []
filled_made answer i.Wanted [] = refl
filled_made answer i.Wanted (tree ∷ trees) = refl

filled_made_by : (answer : Value) (code : List Instr) (trees : Trees) → filled_all answer (made_by code trees) ≡ made_by code (filled_all answer trees)
filled_made_by answer [] trees = refl
filled_made_by answer (instr ∷ code) trees = filled_made_by answer code (made instr trees) ∙ ap (made_by code) (filled_made answer instr trees)

map_reverse : {X Y : Type 0} (f : X → Y) (xs ys : List X) → map f (reverse_aux xs ys) ≡ reverse_aux (map f xs) (map f ys)
map_reverse f [] ys = refl
map_reverse f (x ∷ xs) ys = map_reverse f xs (x ∷ ys)

filled_replaced : (answer : Value) (trees : Trees) (exprs : List Expr) → filled_all answer (replaced trees exprs) ≡ replaced trees (map (filled answer) exprs)
filled_replaced answer [] exprs = refl
filled_replaced answer (tree ∷ trees) [] = refl
filled_replaced answer (tree ∷ trees) (expr ∷ exprs) = ap (λ rest. (filled answer expr, tree.1) ∷ rest) (filled_replaced answer trees exprs)

filled_values : (answer : Value) (values : List Value) → map (filled answer) (map e.Const values) ≡ map e.Const values
filled_values answer [] = refl
filled_values answer (value ∷ values) = rw (filled_const answer value) (ap (λ rest. e.Const value ∷ rest) (filled_values answer values))

-- The trees behind a call, with the answer in the hole, are the trees that the place and the values with the answer on
-- top stand for.
pub filled_rest : (code : List Instr) (place : ℕ) (values : List Value) (awaits : Bool) (answer : Value)
    → filled_all answer (rest_at code place (with_hole awaits values)) ≡ partial code place (with_answer awaits answer values)
filled_rest code place values awaits answer =
    map_reverse (λ tree. (filled answer tree.0, tree.1)) (made_by (drop place code) (standing code place (with_hole awaits values))) []
    ∙ ap reverse (filled_made_by answer (drop place code) (standing code place (with_hole awaits values))
    ∙ ap (made_by (drop place code)) (filled_replaced answer (made_by (take place code) []) (with_hole awaits values)
    ∙ ap (replaced (made_by (take place code) [])) (held_answer awaits)))
  where
    held_answer : (awaits : Bool) → map (filled answer) (with_hole awaits values) ≡ map e.Const (with_answer awaits answer values)
    held_answer true = rw (filled_hole answer) (ap (λ rest. e.Const answer ∷ rest) (filled_values answer values))
    held_answer false = filled_values answer values
