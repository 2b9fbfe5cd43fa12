-- The names that the trees of a place read are those that the code reads from there on.
use Rattle.std.proofs.Common.{◌≡◌, ℕ, Bool, true, false, List, [], ◌∷◌, ◌++◌, map, take, drop, Option, Some, None, refl, ap, sym, ◌∙◌, subst, ⊎_elim, append_assoc, take-append-drop}
use Rattle.std.proofs.lemmas.Bool.{false≢true}
use Rattle.std.proofs.lemmas.List.{append-nil}
use mathlib.Core.List.{reverse_aux}
use Rattle.rx_tree.specs.declared.value.Value.{Value}
use Rattle.rx_tree.specs.declared.name.Name.{Name}
use Rattle.rx_tree.specs.declared.token.Oper.{Oper}
use Rattle.rx_tree.specs.declared.expr.Expr.{Expr}
use Rattle.rx_tree.specs.declared.expr.Expr.TheVariants as e
use Rattle.rx_tree.specs.declared.expr.Expr.TheOpen.{Expr-F}
use Rattle.rx_tree.specs.declared.expr.Expr.TheShapes.{former-Expr-Function-2, former-Expr-Sends-1}
use Rattle.rx_tree.specs.declared.expr.Expr.TheViews.{out-Expr, roll-Expr, roll-out-Expr, out-SendPart, roll-out-SendPart}
use Rattle.rx_tree.specs.declared.expr.Expr.TheFolds.{fold-SendPart, fold-roll-Expr, fold-roll-SendPart}
use Rattle.rx_tree.specs.declared.expr.SendPart.{SendPart}
use Rattle.rx_eval.specs.declared.code.Form.TheVariants as form
use Rattle.rx_eval.specs.declared.code.Instr.{Instr}
use Rattle.rx_eval.specs.declared.code.Instr.TheVariants as i
use Rattle.rx_eval.specs.declared.code.Sending.{Sending}
use Rattle.rx_eval.specs.Bodies.{Body}
use Rattle.rx_eval.specs.Calling.{wants_strings}
use Rattle.rx_eval.specs.Evaluation.{behind, before, sending}
use Rattle.rx_eval.specs.Names.{all_terms, all_args, all_parts, class_names, names_level, names_part, names_of, names_of_all, names_in, names_read, with_tail}
use Rattle.rx_eval.specs.Places.{Trees, taking, with_function, with_send, made, made_by, takes, receives, runs, fits, is_same, knows_call, knows_send, class_name, part_of, marks_of, replaced, standing, partial, IsPlace, Settles}
use Rattle.rx_eval.proofs.Contexts.{behind_chain, behind_other, before_prefix, before_other, sending_sends, sending_other, chain_or, prefix_or, sends_or}
use Rattle.rx_eval.proofs.First.{if_both}
use Rattle.rx_eval.proofs.At.{marks_made, runs_go, fits_rest}

abbrev Names : Type 0
Names = List Name

-- the equations of `names_of`

names_args : List (Option Expr) → Names
names_args [] = []
names_args (None ∷ args) = names_args args
names_args (Some arg ∷ args) = names_of arg ++ names_args args

names_terms : List (Oper × Expr) → Names
names_terms [] = []
names_terms (term ∷ terms) = names_of term.1 ++ names_terms terms

names_one : SendPart → Names
names_one part = names_args part.args ++ class_names part.above

names_parts : List SendPart → Names
names_parts [] = []
names_parts (part ∷ parts) = names_one part ++ names_parts parts

args_are : (args : List (Option Expr)) → all_args (former-Expr-Function-2.map Expr Names names_of args) ≡ names_args args
unfolding names_args
args_are [] = refl
args_are (None ∷ args) = args_are args
args_are (Some arg ∷ args) = ap (λ rest. names_of arg ++ rest) (args_are args)

terms_are : (terms : List (Oper × Expr)) → all_terms (map (λ x. (x.0, names_of x.1)) terms) ≡ names_terms terms
unfolding names_terms
terms_are [] = refl
terms_are (term ∷ terms) = ap (λ rest. names_of term.1 ++ rest) (terms_are terms)

abbrev part_names : SendPart → Names
part_names = fold-SendPart Names Names names_level names_part

part_is : (part : SendPart) → part_names part ≡ names_one part
unfolding names_of names_one
part_is part = ap part_names (sym (roll-out-SendPart part)) ∙ fold-roll-SendPart Names Names names_level names_part (out-SendPart part) ∙ ap (λ b. b ++ class_names part.above) (args_are part.args)

parts_are : (parts : List SendPart) → all_parts (former-Expr-Sends-1.map SendPart Names part_names parts) ≡ names_parts parts
unfolding names_parts
parts_are [] = refl
parts_are (part ∷ parts) = ap (λ b. b ++ all_parts (former-Expr-Sends-1.map SendPart Names part_names parts)) (part_is part) ∙ ap (λ b. names_one part ++ b) (parts_are parts)

names_const : (value : Value) → names_of (e.Const value) ≡ []
unfolding names_of
names_const value = ap names_of (sym (e.rolls-Const value)) ∙ fold-roll-Expr Names Names names_level names_part (Expr-F.Const value)

names_name : (name : Name) → names_of (e.Name name) ≡ with_tail name
unfolding names_of
names_name name = ap names_of (sym (e.rolls-Name name)) ∙ fold-roll-Expr Names Names names_level names_part (Expr-F.Name name)

names_environment : (name : List ℕ) → names_of (e.Environment name) ≡ []
unfolding names_of
names_environment name = ap names_of (sym (e.rolls-Environment name)) ∙ fold-roll-Expr Names Names names_level names_part (Expr-F.Environment name)

names_prefix : (opers : List Oper) (inner : Expr) → names_of (e.Prefix opers inner) ≡ names_of inner
unfolding names_of
names_prefix opers inner = ap names_of (sym (e.rolls-Prefix opers inner)) ∙ fold-roll-Expr Names Names names_level names_part (Expr-F.Prefix opers inner)

names_chain : (first : Expr) (terms : List (Oper × Expr)) → names_of (e.Chain first terms) ≡ names_of first ++ names_terms terms
unfolding names_of
names_chain first terms =
    ap names_of (sym (e.rolls-Chain first terms)) ∙ fold-roll-Expr Names Names names_level names_part (Expr-F.Chain first terms) ∙ ap (λ b. names_of first ++ b) (terms_are terms)

names_group : (inner : Expr) → names_of (e.Group inner) ≡ names_of inner
unfolding names_of
names_group inner = ap names_of (sym (e.rolls-Group inner)) ∙ fold-roll-Expr Names Names names_level names_part (Expr-F.Group inner)

names_function : (name : List ℕ) (is_string : Bool) (args : List (Option Expr)) → names_of (e.Function name is_string args) ≡ names_args args
unfolding names_of
names_function name is_string args =
    ap names_of (sym (e.rolls-Function name is_string args)) ∙ fold-roll-Expr Names Names names_level names_part (Expr-F.Function name is_string args) ∙ args_are args

names_sends : (receiver : Expr) (parts : List SendPart) → names_of (e.Sends receiver parts) ≡ names_of receiver ++ names_parts parts
unfolding names_of
names_sends receiver parts =
    ap names_of (sym (e.rolls-Sends receiver parts)) ∙ fold-roll-Expr Names Names names_level names_part (Expr-F.Sends receiver parts) ∙ ap (λ b. names_of receiver ++ b) (parts_are parts)

-- what is put behind comes behind

terms_more : (terms : List (Oper × Expr)) (oper : Oper) (right : Expr) → names_terms (terms ++ (oper, right) ∷ []) ≡ names_terms terms ++ names_of right
unfolding names_terms
terms_more [] oper right = append-nil (names_of right)
terms_more (term ∷ terms) oper right = ap (λ rest. names_of term.1 ++ rest) (terms_more terms oper right) ∙ sym (append_assoc (names_of term.1) (names_terms terms) (names_of right))

parts_more : (parts : List SendPart) (part : SendPart) → names_parts (parts ++ part ∷ []) ≡ names_parts parts ++ names_one part
unfolding names_parts
parts_more [] part = append-nil (names_one part)
parts_more (p ∷ parts) part = ap (λ rest. names_one p ++ rest) (parts_more parts part) ∙ sym (append_assoc (names_one p) (names_parts parts) (names_one part))

one_term : (oper : Oper) (right : Expr) → names_terms ((oper, right) ∷ []) ≡ names_of right
unfolding names_terms
one_term oper right = append-nil (names_of right)

one_part : (part : SendPart) → names_parts (part ∷ []) ≡ names_one part
unfolding names_parts
one_part part = append-nil (names_one part)

names_behind : (left : Expr) (oper : Oper) (right : Expr) → names_of (behind left oper right) ≡ names_of left ++ names_of right
names_behind left oper right =
    ⊎_elim
    (λ t. subst (λ y. names_of (behind y oper right) ≡ names_of y ++ names_of right) (sym (sym (roll-out-Expr left) ∙ ap roll-Expr t.2 ∙ e.rolls-Chain t.0 t.1))
    (ap names_of (behind_chain t.0 t.1 oper right) ∙ names_chain t.0 (t.1 ++ (oper, right) ∷ []) ∙ ap (λ b. names_of t.0 ++ b) (terms_more t.1 oper right)
    ∙ sym (append_assoc (names_of t.0) (names_terms t.1) (names_of right)) ∙ ap (λ b. b ++ names_of right) (sym (names_chain t.0 t.1))))
    (λ h. ap names_of (behind_other left oper right h) ∙ names_chain left ((oper, right) ∷ []) ∙ ap (λ b. names_of left ++ b) (one_term oper right))
    (chain_or (out-Expr left))

names_before : (oper : Oper) (right : Expr) → names_of (before oper right) ≡ names_of right
names_before oper right =
    ⊎_elim
    (λ t. subst (λ y. names_of (before oper y) ≡ names_of y) (sym (sym (roll-out-Expr right) ∙ ap roll-Expr t.2 ∙ e.rolls-Prefix t.0 t.1))
    (ap names_of (before_prefix oper t.0 t.1) ∙ names_prefix (oper ∷ t.0) t.1 ∙ sym (names_prefix t.0 t.1)))
    (λ h. ap names_of (before_other oper right h) ∙ names_prefix (oper ∷ []) right)
    (prefix_or (out-Expr right))

names_sending : (target : Expr) (part : SendPart) → names_of (sending target part) ≡ names_of target ++ names_one part
names_sending target part =
    ⊎_elim
    (λ t. subst (λ y. names_of (sending y part) ≡ names_of y ++ names_one part) (sym (sym (roll-out-Expr target) ∙ ap roll-Expr t.2 ∙ e.rolls-Sends t.0 t.1))
    (ap names_of (sending_sends t.0 t.1 part) ∙ names_sends t.0 (t.1 ++ part ∷ []) ∙ ap (λ b. names_of t.0 ++ b) (parts_more t.1 part)
    ∙ sym (append_assoc (names_of t.0) (names_parts t.1) (names_one part)) ∙ ap (λ b. b ++ names_one part) (sym (names_sends t.0 t.1))))
    (λ h. ap names_of (sending_other target part h) ∙ names_sends target (part ∷ []) ∙ ap (λ b. names_of target ++ b) (one_part part))
    (sends_or (out-Expr target))

-- the variables of trees that stand the last one first
abbrev stacked_names : Trees → Names
stacked_names [] = []
stacked_names (tree ∷ trees) = stacked_names trees ++ names_of tree.0

in_order : (trees rest : Trees) → names_of_all (reverse_aux trees rest) ≡ stacked_names trees ++ names_of_all rest
in_order [] rest = refl
in_order (tree ∷ trees) rest = in_order trees (tree ∷ rest) ∙ sym (append_assoc (stacked_names trees) (names_of tree.0) (names_of_all rest))

names_taking : (strings : Bool) (go : List (Option Expr) → Trees → Trees) (fit : List Bool → Bool) (more : Names)
    → ((args : List (Option Expr)) (trees : Trees) → fit (marks_of trees) ≡ true → stacked_names (go args trees) ≡ stacked_names trees ++ (names_args args ++ more))
    → (shape : List Bool) (trees : Trees) (args : List (Option Expr)) → takes strings shape (marks_of trees) fit ≡ true
    → stacked_names (taking shape trees args go) ≡ stacked_names trees ++ (names_args args ++ more)
unfolding names_args
names_taking strings go fit more h [] trees args f = h args trees f
names_taking strings go fit more h (false ∷ shape) trees args f = names_taking strings go fit more h shape trees (None ∷ args) f
names_taking strings go fit more h (true ∷ shape) [] args f = absurd (false≢true f)
names_taking strings go fit more h (true ∷ shape) (tree ∷ trees) args f =
    names_taking strings go fit more h shape trees (Some tree.0 ∷ args) (if_both (is_same tree.1 strings) (takes strings shape (marks_of trees) fit) f).1
    ∙ ap (λ b. stacked_names trees ++ b) (append_assoc (names_of tree.0) (names_args args) more)
    ∙ sym (append_assoc (stacked_names trees) (names_of tree.0) (names_args args ++ more))

send_names : (send : Sending) (fit : List Bool → Bool) (args : List (Option Expr)) (trees : Trees) → receives fit (marks_of trees) ≡ true
    → stacked_names (with_send send args trees) ≡ stacked_names trees ++ (names_args args ++ class_names (class_name send.class))
unfolding names_one
send_names send fit args [] f = absurd (false≢true f)
send_names send fit args (tree ∷ trees) f =
    ap (λ b. stacked_names trees ++ b) (names_sending tree.0 (part_of send args))
    ∙ sym (append_assoc (stacked_names trees) (names_of tree.0) (names_args args ++ class_names (class_name send.class)))

no_terms : names_terms [] ≡ []
unfolding names_terms
no_terms = refl

no_parts : names_parts [] ≡ []
unfolding names_parts
no_parts = refl

no_args : names_args [] ≡ []
unfolding names_args
no_args = refl

names_made : (body : Body) (instr : Instr) (trees : Trees) (fit : List Bool → Bool) → runs body instr (marks_of trees) fit ≡ true
    → stacked_names (made instr trees) ≡ stacked_names trees ++ names_read instr
names_made body (i.Const value) trees fit f = ap (λ b. stacked_names trees ++ b) (names_const value)
names_made body (i.Name name) trees fit f = ap (λ b. stacked_names trees ++ b) (names_name name)
names_made body (i.Environment name object) trees fit f = ap (λ b. stacked_names trees ++ b) (names_environment name)
names_made body (i.Begin form) [] fit f = refl
names_made body (i.Begin form.Prefix) (tree ∷ trees) fit f = ap (λ b. stacked_names trees ++ b) (names_prefix [] tree.0) ∙ sym (append-nil (stacked_names trees ++ names_of tree.0))
names_made body (i.Begin form.Chain) (tree ∷ trees) fit f =
    ap (λ b. stacked_names trees ++ b) (names_chain tree.0 [] ∙ ap (λ b. names_of tree.0 ++ b) no_terms ∙ append-nil (names_of tree.0)) ∙ sym (append-nil (stacked_names trees ++ names_of tree.0))
names_made body (i.Begin form.Sends) (tree ∷ trees) fit f =
    ap (λ b. stacked_names trees ++ b) (names_sends tree.0 [] ∙ ap (λ b. names_of tree.0 ++ b) no_parts ∙ append-nil (names_of tree.0)) ∙ sym (append-nil (stacked_names trees ++ names_of tree.0))
names_made body (i.Oper oper) [] fit f = refl
names_made body (i.Oper oper) (right ∷ []) fit f = sym (append-nil (stacked_names (right ∷ [])))
names_made body (i.Oper oper) (right ∷ left ∷ trees) fit f =
    ap (λ b. stacked_names trees ++ b) (names_behind left.0 oper right.0) ∙ sym (append_assoc (stacked_names trees) (names_of left.0) (names_of right.0))
    ∙ sym (append-nil (stacked_names (right ∷ left ∷ trees)))
names_made body (i.Prefix oper) [] fit f = refl
names_made body (i.Prefix oper) (tree ∷ trees) fit f = ap (λ b. stacked_names trees ++ b) (names_before oper tree.0) ∙ sym (append-nil (stacked_names trees ++ names_of tree.0))
names_made body i.Group [] fit f = refl
names_made body i.Group (tree ∷ trees) fit f = ap (λ b. stacked_names trees ++ b) (names_group tree.0) ∙ sym (append-nil (stacked_names trees ++ names_of tree.0))
names_made body (i.Function call) trees fit f =
    names_taking (wants_strings call.callee) (with_function call) (λ rest. fit (false ∷ rest)) []
    (λ args rest g. ap (λ b. stacked_names rest ++ b) (names_function call.name call.is_string args ∙ sym (append-nil (names_args args)))) call.shape trees []
    (if_both (knows_call body call) (takes (wants_strings call.callee) call.shape (marks_of trees) (λ rest. fit (false ∷ rest))) f).1
    ∙ ap (λ b. stacked_names trees ++ (b ++ [])) no_args
names_made body (i.Send send) trees fit f =
    names_taking false (with_send send) (receives fit) (class_names (class_name send.class)) (send_names send fit) send.shape trees []
    (if_both (knows_send body send) (takes false send.shape (marks_of trees) (receives fit)) f).1
    ∙ ap (λ b. stacked_names trees ++ (b ++ class_names (class_name send.class))) no_args
names_made body i.Wanted [] fit f = refl
names_made body i.Wanted (tree ∷ trees) fit f = sym (append-nil (stacked_names trees ++ names_of tree.0))

names_made_by : (body : Body) (code : List Instr) (trees : Trees) → fits body code (marks_of trees) ≡ true → stacked_names (made_by code trees) ≡ stacked_names trees ++ names_in code
names_made_by body [] trees f = sym (append-nil (stacked_names trees))
names_made_by body (instr ∷ code) trees f =
    names_made_by body code (made instr trees) (subst (λ marks. fits body code marks ≡ true) (sym (marks_made instr trees)) (runs_go body instr (marks_of trees) (fits body code) f))
    ∙ ap (λ b. b ++ names_in code) (names_made body instr trees (fits body code) f)
    ∙ append_assoc (stacked_names trees) (names_read instr) (names_in code)

constants : (trees : Trees) (values : List Value) → Settles trees values → (stacked_names (replaced trees (map e.Const values)) ≡ []) × (marks_of (replaced trees (map e.Const values)) ≡ marks_of trees)
constants [] values h = (refl, refl)
constants (tree ∷ trees) [] h = absurd h
constants (tree ∷ trees) (value ∷ values) h =
    let p = constants trees values h.1 in
    (ap (λ b. b ++ names_of (e.Const value)) p.0 ∙ names_const value, ap (λ b. tree.1 ∷ b) p.1)

pub names_at : (body : Body) (code : List Instr) (place : ℕ) (values : List Value) → fits body code [] ≡ true → IsPlace code place values
    → names_of_all (partial code place values) ≡ names_in (drop place code)
names_at body code place values f h =
    let trees = made_by (take place code) [] in
    let p = constants trees values h in
    let rest : fits body (drop place code) (marks_of trees) ≡ true = fits_rest body (take place code) (drop place code) [] (subst (λ all. fits body all [] ≡ true) (sym (take-append-drop place code)) f) in
    in_order (made_by (drop place code) (standing code place (map e.Const values))) []
    ∙ append-nil (stacked_names (made_by (drop place code) (standing code place (map e.Const values))))
    ∙ names_made_by body (drop place code) (standing code place (map e.Const values)) (subst (λ marks. fits body (drop place code) marks ≡ true) (sym p.1) rest)
    ∙ ap (λ b. b ++ names_in (drop place code)) p.0
