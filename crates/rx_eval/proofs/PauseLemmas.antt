-- When nothing but the answer is left at a call.
use Rattle.std.proofs.Common.{◌≡◌, ℕ, suc, ◌+◌, ◌-◌, ◌<◌, ◌≤◌, ◌==◌, ⊎_elim, Bool, true, false, not, if◌then◌else◌, List, [], ◌∷◌, ◌++◌, map, reverse, take, drop, length, slice_get, Option, Some, None, refl, ap, sym, ◌∙◌, subst, take-append-drop, ne_eqb, arith}
use Rattle.std.proofs.lemmas.Bool.{false≢true}
use Rattle.std.proofs.lemmas.List.{drop_all, take_all, length-reverse, reverse-append}
use Rattle.std.proofs.lemmas.Option.{slice_get_cases}
use mathlib.Core.List.{reverse_aux}
use Rattle.rx_tree.specs.declared.expr.Expr.{Expr}
use Rattle.rx_tree.specs.declared.expr.Expr.TheVariants as e
use Rattle.rx_tree.specs.declared.expr.Expr.TheOpen.{Expr-F}
use Rattle.rx_tree.specs.declared.expr.Expr.TheViews.{out-Expr}
use Rattle.rx_tree.specs.declared.expr.SendPart.{SendPart}
use Rattle.rx_tree.specs.declared.token.Oper.{Oper}
use Rattle.rx_tree.specs.declared.value.Value.{Value}
use Rattle.rx_tree.specs.declared.value.Value.TheVariants.{Str}
use Rattle.rx_eval.specs.declared.code.Form.TheVariants as form
use Rattle.rx_eval.specs.declared.code.Instr.{Instr}
use Rattle.rx_eval.specs.declared.code.Instr.TheVariants as i
use Rattle.rx_eval.specs.declared.code.Sending.{Sending}
use Rattle.rx_eval.specs.Bodies.{Body}
use Rattle.rx_eval.specs.Evaluation.{before, before_layer, behind, behind_layer, sending, sending_layer}
use Rattle.rx_eval.specs.Pauses.{Pause, GoesOn, ends_wanted, is_bare, is_hole, is_wanted, left_of}
use Rattle.rx_eval.specs.Places.{IsPlace, Settles, Trees, fits, made, made_by, marks_of, part_of, replaced, runs, standing, taking, with_answer, with_function, with_hole, with_send}
use Rattle.rx_eval.proofs.At.{cut, fits_at, made_by_append, marks_made, runs_go}

-- ---- what code makes is no bare hole

is_plain : (expr : Expr) (mark : Bool) (trees : Trees) → is_hole (out-Expr expr) ≡ false → is_bare ((expr, mark) ∷ trees) ≡ false
is_plain expr true [] h = refl
is_plain expr false [] h = h
is_plain expr mark (tree ∷ trees) h = refl

behind_plain : (layer : Expr-F Expr SendPart) (left : Expr) (oper : Oper) (right : Expr) → is_hole (out-Expr (behind_layer layer left oper right)) ≡ false
behind_plain (Expr-F.Chain first terms) left oper right = ap is_hole (e.outs-Chain first (terms ++ (oper, right) ∷ []))
behind_plain _ left oper right = ap is_hole (e.outs-Chain left ((oper, right) ∷ []))

before_plain : (layer : Expr-F Expr SendPart) (oper : Oper) (right : Expr) → is_hole (out-Expr (before_layer layer oper right)) ≡ false
before_plain (Expr-F.Prefix opers inner) oper right = ap is_hole (e.outs-Prefix (oper ∷ opers) inner)
before_plain _ oper right = ap is_hole (e.outs-Prefix (oper ∷ []) right)

sending_plain : (layer : Expr-F Expr SendPart) (target : Expr) (part : SendPart) → is_hole (out-Expr (sending_layer layer target part)) ≡ false
sending_plain (Expr-F.Sends receiver parts) target part = ap is_hole (e.outs-Sends receiver (parts ++ part ∷ []))
sending_plain _ target part = ap is_hole (e.outs-Sends target (part ∷ []))

taking_plain : (go : List (Option Expr) → Trees → Trees) → ((args : List (Option Expr)) (trees : Trees) → is_bare (go args trees) ≡ false)
    → (shape : List Bool) (trees : Trees) (args : List (Option Expr)) → is_bare (taking shape trees args go) ≡ false
taking_plain go h [] trees args = h args trees
taking_plain go h (false ∷ shape) trees args = taking_plain go h shape trees (None ∷ args)
taking_plain go h (true ∷ shape) [] args = refl
taking_plain go h (true ∷ shape) (tree ∷ trees) args = taking_plain go h shape trees (Some tree.0 ∷ args)

send_plain : (send : Sending) (args : List (Option Expr)) (trees : Trees) → is_bare (with_send send args trees) ≡ false
unfolding sending
send_plain send args [] = refl
send_plain send args (tree ∷ trees) = is_plain (sending tree.0 (part_of send args)) false trees (sending_plain (out-Expr tree.0) tree.0 (part_of send args))

one_operand : (body : Body) (oper : Oper) (mark : Bool) (fit : List Bool → Bool) → runs body (i.Oper oper) (mark ∷ []) fit ≡ true → ⊥
one_operand body oper true fit h = false≢true h
one_operand body oper false fit h = false≢true h

made_plain : (body : Body) (instr : Instr) (trees : Trees) (fit : List Bool → Bool) → runs body instr (marks_of trees) fit ≡ true → is_bare (made instr trees) ≡ false
unfolding behind before
made_plain body (i.Const value) trees fit h = is_plain (e.Const value) false trees (ap is_hole (e.outs-Const value))
made_plain body (i.Name name) trees fit h = is_plain (e.Name name) false trees (ap is_hole (e.outs-Name name))
made_plain body (i.Environment name object) trees fit h = is_plain (e.Environment name) false trees (ap is_hole (e.outs-Environment name))
made_plain body (i.Begin form) [] fit h = refl
made_plain body (i.Begin form.Prefix) (tree ∷ trees) fit h = is_plain (e.Prefix [] tree.0) false trees (ap is_hole (e.outs-Prefix [] tree.0))
made_plain body (i.Begin form.Chain) (tree ∷ trees) fit h = is_plain (e.Chain tree.0 []) false trees (ap is_hole (e.outs-Chain tree.0 []))
made_plain body (i.Begin form.Sends) (tree ∷ trees) fit h = is_plain (e.Sends tree.0 []) false trees (ap is_hole (e.outs-Sends tree.0 []))
made_plain body (i.Oper oper) [] fit h = refl
made_plain body (i.Oper oper) (right ∷ []) fit h = absurd (one_operand body oper right.1 fit h)
made_plain body (i.Oper oper) (right ∷ left ∷ trees) fit h = is_plain (behind left.0 oper right.0) false trees (behind_plain (out-Expr left.0) left.0 oper right.0)
made_plain body (i.Prefix oper) [] fit h = refl
made_plain body (i.Prefix oper) (tree ∷ trees) fit h = is_plain (before oper tree.0) false trees (before_plain (out-Expr tree.0) oper tree.0)
made_plain body i.Group [] fit h = refl
made_plain body i.Group (tree ∷ trees) fit h = is_plain (e.Group tree.0) false trees (ap is_hole (e.outs-Group tree.0))
made_plain body (i.Function call) trees fit h =
    taking_plain (with_function call)
    (λ args rest. is_plain (e.Function call.name call.is_string args) false rest (ap is_hole (e.outs-Function call.name call.is_string args))) call.shape trees []
made_plain body (i.Send send) trees fit h = taking_plain (with_send send) (send_plain send) send.shape trees []
made_plain body i.Wanted [] fit h = refl
made_plain body i.Wanted (tree ∷ []) fit h = refl
made_plain body i.Wanted (tree ∷ next ∷ trees) fit h = refl

code_plain : (body : Body) (instr : Instr) (code : List Instr) (trees : Trees) → fits body (instr ∷ code) (marks_of trees) ≡ true → is_bare (made_by (instr ∷ code) trees) ≡ false
code_plain body instr [] trees h = made_plain body instr trees (fits body []) h
code_plain body instr (next ∷ code) trees h =
    code_plain body next code (made instr trees)
    (subst (λ marks. fits body (next ∷ code) marks ≡ true) (sym (marks_made instr trees)) (runs_go body instr (marks_of trees) (fits body (next ∷ code)) h))

-- ---- the order of trees

several : (trees : Trees) (one other : Expr × Bool) (rest : Trees) → is_bare (reverse_aux trees (one ∷ other ∷ rest)) ≡ false
several [] one other rest = refl
several (tree ∷ trees) one other rest = several trees tree one (other ∷ rest)

bare_reversed : (trees : Trees) → is_bare (reverse trees) ≡ is_bare trees
bare_reversed [] = refl
bare_reversed (tree ∷ []) = refl
bare_reversed (tree ∷ next ∷ trees) = several trees next tree []

-- ---- at a call with instructions behind it

marks_replaced : (trees : Trees) (values : List Value) → Settles trees values → marks_of (replaced trees (map e.Const values)) ≡ marks_of trees
marks_replaced [] values h = refl
marks_replaced (tree ∷ trees) [] h = absurd h
marks_replaced (tree ∷ trees) (value ∷ values) h = ap (λ marks. tree.1 ∷ marks) (marks_replaced trees values h.1)

marks_left : (trees : Trees) (kept : Bool) (values : List Value) → ((answer : Value) → Settles trees (with_answer kept answer values)) → Value → marks_of (replaced trees (with_hole kept values)) ≡ marks_of trees
marks_left trees false values h answer = marks_replaced trees values (h answer)
marks_left [] true values h answer = absurd (h answer)
marks_left (tree ∷ trees) true values h answer = ap (λ marks. tree.1 ∷ marks) (marks_replaced trees values (h answer).1)

-- some value
empty : Value
empty = Str []

left_at : (pause : Pause) (instr : Instr) → fits pause.code.body pause.code.instrs [] ≡ true → GoesOn pause → slice_get pause.code.instrs pause.place ≡ Some instr → is_bare (left_of pause) ≡ false
left_at pause instr fit h at =
    let code = pause.code.instrs in
    let trees = made_by (take pause.place code) [] in
    let stand : Trees = standing code pause.place (with_hole pause.kept (reverse pause.values)) in
    let rest = drop (pause.place + 1) code in
    let marks : marks_of stand ≡ marks_of trees = marks_left trees pause.kept (reverse pause.values) h empty in
    let here : drop pause.place code ≡ instr ∷ rest = (cut code pause.place instr at).0 in
    let fit_here : fits pause.code.body (instr ∷ rest) (marks_of stand) ≡ true =
    subst (λ all. fits pause.code.body all (marks_of stand) ≡ true) here (subst (λ all. fits pause.code.body (drop pause.place code) all ≡ true) (sym marks) (fits_at pause.code.body code pause.place fit)) in
    bare_reversed (made_by (drop pause.place code) stand) ∙ ap (λ all. is_bare (made_by all stand)) here ∙ code_plain pause.code.body instr rest stand fit_here

-- ---- at a call at the end

values_plain : (trees : Trees) (values : List Value) → is_bare (replaced trees (map e.Const values)) ≡ false
values_plain [] values = refl
values_plain (tree ∷ trees) [] = refl
values_plain (tree ∷ trees) (value ∷ values) = is_plain (e.Const value) tree.1 (replaced trees (map e.Const values)) (ap is_hole (e.outs-Const value))

below_plain : (trees : Trees) (value : Value) (values : List Value) → ((answer : Value) → Settles trees (answer ∷ value ∷ values)) → is_bare (replaced trees (e.Hole ∷ map e.Const (value ∷ values))) ≡ false
below_plain [] value values h = refl
below_plain (tree ∷ []) value values h = absurd ((h empty).1)
below_plain (tree ∷ next ∷ trees) value values h = refl

-- the mark of the last tree
abbrev Top : Bool → Trees → Type 0
Top mark [] = Unit {0}
Top mark (tree ∷ trees) = tree.1 ≡ mark

taking_top : (go : List (Option Expr) → Trees → Trees) → ((args : List (Option Expr)) (trees : Trees) → Top false (go args trees)) → (shape : List Bool) (trees : Trees) (args : List (Option Expr))
    → Top false (taking shape trees args go)
taking_top go h [] trees args = h args trees
taking_top go h (false ∷ shape) trees args = taking_top go h shape trees (None ∷ args)
taking_top go h (true ∷ shape) [] args = tt
taking_top go h (true ∷ shape) (tree ∷ trees) args = taking_top go h shape trees (Some tree.0 ∷ args)

send_top : (send : Sending) (args : List (Option Expr)) (trees : Trees) → Top false (with_send send args trees)
send_top send args [] = tt
send_top send args (tree ∷ trees) = refl

made_top : (body : Body) (instr : Instr) (trees : Trees) (fit : List Bool → Bool) → runs body instr (marks_of trees) fit ≡ true → Top (is_wanted (Some instr)) (made instr trees)
made_top body (i.Const value) trees fit h = refl
made_top body (i.Name name) trees fit h = refl
made_top body (i.Environment name object) trees fit h = refl
made_top body (i.Begin form) [] fit h = tt
made_top body (i.Begin form) (tree ∷ trees) fit h = refl
made_top body (i.Oper oper) [] fit h = tt
made_top body (i.Oper oper) (right ∷ []) fit h = absurd (one_operand body oper right.1 fit h)
made_top body (i.Oper oper) (right ∷ left ∷ trees) fit h = refl
made_top body (i.Prefix oper) [] fit h = tt
made_top body (i.Prefix oper) (tree ∷ trees) fit h = refl
made_top body i.Group [] fit h = tt
made_top body i.Group (tree ∷ trees) fit h = refl
made_top body (i.Function call) trees fit h = taking_top (with_function call) (λ args rest. refl) call.shape trees []
made_top body (i.Send send) trees fit h = taking_top (with_send send) (send_top send) send.shape trees []
made_top body i.Wanted [] fit h = tt
made_top body i.Wanted (tree ∷ trees) fit h = refl

none_made : (code : List Instr) → length code ≤ length code - 1 → Top (ends_wanted code) (made_by code [])
none_made [] h = tt
none_made (instr ∷ code) h = absurd (omega arith)

last_made : (body : Body) (code : List Instr) (instr : Instr) (at : ℕ) → length code ≤ at + 1 → fits body code [] ≡ true → slice_get code at ≡ Some instr
    → Top (is_wanted (slice_get code at)) (made_by code [])
last_made body code instr at within fit is =
    let trees = made_by (take at code) [] in
    let here = cut code at instr is in
    let last : drop at code ≡ instr ∷ [] = here.0 ∙ ap (λ rest. instr ∷ rest) (drop_all (at + 1) code within) in
    let fit_here : runs body instr (marks_of trees) (fits body []) ≡ true = subst (λ all. fits body all (marks_of trees) ≡ true) last (fits_at body code at fit) in
    let all : made_by code [] ≡ made instr trees =
    ap (λ all. made_by all []) (sym (take-append-drop at code)) ∙ made_by_append (take at code) (drop at code) [] ∙ ap (λ rest. made_by rest trees) last in
    subst (λ mark. Top mark (made_by code [])) (ap is_wanted (sym is)) (subst (Top (is_wanted (Some instr))) (sym all) (made_top body instr trees (fits body []) fit_here))

top_marked : (body : Body) (code : List Instr) → fits body code [] ≡ true → Top (ends_wanted code) (made_by code [])
top_marked body code fit =
    ⊎_elim
    (λ t. last_made body code t.0 (length code - 1) (omega arith) fit t.2)
    (λ t. none_made code t.0)
    (slice_get_cases code (length code - 1)).1

hole_alone : (trees : Trees) (mark : Bool) → ((answer : Value) → Settles trees (answer ∷ [])) → Top mark trees → is_bare (replaced trees (e.Hole ∷ [])) ≡ not mark
hole_alone [] mark h t = absurd (h empty)
hole_alone (tree ∷ []) mark h t = ap (λ is. if is then false else is_hole (out-Expr e.Hole)) t ∙ alone mark
  where
    alone : (mark : Bool) → (if mark then false else is_hole (out-Expr e.Hole)) ≡ not mark
    alone true = refl
    alone false = ap is_hole e.outs-Hole
hole_alone (tree ∷ next ∷ trees) mark h t = absurd ((h empty).1)

at_end : (pause : Pause) → length pause.code.instrs ≤ pause.place
    → is_bare (left_of pause) ≡ is_bare (replaced (made_by (take pause.place pause.code.instrs) []) (with_hole pause.kept (reverse pause.values)))
at_end pause end =
    let stand : Trees = standing pause.code.instrs pause.place (with_hole pause.kept (reverse pause.values)) in
    bare_reversed (made_by (drop pause.place pause.code.instrs) stand) ∙ ap (λ all. is_bare (made_by all stand)) (drop_all pause.place pause.code.instrs end)

end_plain : (trees : Trees) (kept : Bool) (values : List Value) (wanted : Bool) → ((answer : Value) → Settles trees (with_answer kept answer values)) → Top wanted trees
    → is_bare (replaced trees (with_hole kept values)) ≡ (if kept then if length values == 0 then not wanted else false else false)
end_plain trees false values wanted h t = values_plain trees values
end_plain trees true [] wanted h t = hole_alone trees wanted h t
end_plain trees true (value ∷ values) wanted h t =
    below_plain trees value values h ∙ sym (ap (λ none. if none then not wanted else false) (ne_eqb (suc (length values)) 0 (λ p. absurd (omega arith))))

bare_at_end : (pause : Pause) → fits pause.code.body pause.code.instrs [] ≡ true → GoesOn pause → length pause.code.instrs ≤ pause.place
    → is_bare (left_of pause) ≡ (if pause.kept then if length pause.values == 0 then not (ends_wanted pause.code.instrs) else false else false)
bare_at_end pause fit h end =
    let trees = made_by (take pause.place pause.code.instrs) [] in
    let top : Top (ends_wanted pause.code.instrs) trees =
    subst (λ code. Top (ends_wanted pause.code.instrs) (made_by code [])) (sym (take_all pause.place pause.code.instrs end)) (top_marked pause.code.body pause.code.instrs fit) in
    at_end pause end ∙ end_plain trees pause.kept (reverse pause.values) (ends_wanted pause.code.instrs) h top
    ∙ ap (λ long. if pause.kept then if long == 0 then not (ends_wanted pause.code.instrs) else false else false) (length-reverse pause.values)

-- ---- when nothing but the answer is left

abbrev IsWhole : Pause → Type 0
IsWhole pause = fits pause.code.body pause.code.instrs [] ≡ true

pub left_plain : (pause : Pause) → IsWhole pause → GoesOn pause → pause.place < length pause.code.instrs → is_bare (left_of pause) ≡ false
left_plain pause fit h within =
    ⊎_elim (λ t. left_at pause t.0 fit h t.2) (λ t. absurd (omega arith)) (slice_get_cases pause.code.instrs pause.place).1

pub dropped_plain : (pause : Pause) → IsWhole pause → GoesOn pause → pause.kept ≡ false → is_bare (left_of pause) ≡ false
dropped_plain pause fit h dropped =
    ⊎_elim
    (λ t. left_at pause t.0 fit h t.2)
    (λ t. bare_at_end pause fit h t.0 ∙ ap (λ kept. if kept then if length pause.values == 0 then not (ends_wanted pause.code.instrs) else false else false) dropped)
    (slice_get_cases pause.code.instrs pause.place).1

if_same : (b : Bool) → (if b then false else false) ≡ false
if_same true = refl
if_same false = refl

not_none : (values : List Value) → (values ≡ [] → ⊥) → (length values == 0) ≡ false
not_none [] some = absurd (some refl)
not_none (value ∷ values) some = ne_eqb (suc (length values)) 0 (λ p. absurd (omega arith))

pub valued_plain : (pause : Pause) → IsWhole pause → GoesOn pause → (pause.values ≡ [] → ⊥) → is_bare (left_of pause) ≡ false
valued_plain pause fit h some =
    ⊎_elim
    (λ t. left_at pause t.0 fit h t.2)
    (λ t. bare_at_end pause fit h t.0 ∙ ap (λ none. if pause.kept then if none then not (ends_wanted pause.code.instrs) else false else false) (not_none pause.values some) ∙ if_same pause.kept)
    (slice_get_cases pause.code.instrs pause.place).1

pub ends_bare : (pause : Pause) → IsWhole pause → GoesOn pause → pause.kept ≡ true → pause.values ≡ [] → length pause.code.instrs ≤ pause.place
    → is_bare (left_of pause) ≡ not (ends_wanted pause.code.instrs)
ends_bare pause fit h kept none end =
    bare_at_end pause fit h end
    ∙ ap (λ kept. if kept then if length pause.values == 0 then not (ends_wanted pause.code.instrs) else false else false) kept
    ∙ ap (λ values. if length values == 0 then not (ends_wanted pause.code.instrs) else false) none

-- an answer that becomes no value doesn't matter
pub unanswered : (pause : Pause) → pause.kept ≡ false → GoesOn pause → IsPlace pause.code.instrs pause.place (reverse pause.values)
unanswered pause dropped h = subst (λ kept. IsPlace pause.code.instrs pause.place (with_answer kept empty (reverse pause.values))) dropped (h empty)

-- the answer that was put to the values
pub put_there : (values more : List Value) (answer : Value) (kept : Bool) → kept ≡ true → more ≡ values ++ answer ∷ [] → reverse more ≡ with_answer kept answer (reverse values)
put_there values more answer kept is h = ap reverse h ∙ reverse-append values (answer ∷ []) ∙ sym (ap (λ kept. with_answer kept answer (reverse values)) is)

pub left_there : (values more : List Value) (answer : Value) (kept : Bool) → kept ≡ false → more ≡ values → reverse more ≡ with_answer kept answer (reverse values)
left_there values more answer kept is h = ap reverse h ∙ sym (ap (λ kept. with_answer kept answer (reverse values)) is)
