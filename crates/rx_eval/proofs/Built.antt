-- What code builds, instruction by instruction.
use Rattle.std.proofs.Common.{◌≡◌, ℕ, zero, suc, ◌+◌, ◌-◌, ◌<◌, ◌≤◌, Bool, true, false, ◌&&◌, if◌then◌else◌, List, [], ◌∷◌, ◌++◌, map, reverse, take, drop, length, get_or, slice_get, Option, Some, None, refl, ap, sym, ◌∙◌, subst, append_assoc, arith}
use Rattle.std.proofs.lemmas.Bool.Decides.{nat_tests}
use Rattle.std.proofs.lemmas.Bool.{false≢true}
use Rattle.std.proofs.lemmas.List.{append-nil}
use Rattle.std.proofs.Math.Seq.{drop-cons}
use Rattle.std.proofs.lemmas.Grind.{reverse_onto}
use mathlib.Core.List.{reverse_aux}
use Rattle.rx_tree.specs.declared.value.Value.{Value}
use Rattle.rx_tree.specs.declared.token.Oper.{Oper}
use Rattle.rx_tree.specs.declared.expr.Expr.{Expr}
use Rattle.rx_tree.specs.declared.expr.Expr.TheVariants as e
use Rattle.rx_tree.specs.declared.expr.Expr.TheOpen.{Expr-F}
use Rattle.rx_tree.specs.declared.expr.Expr.TheShapes.{former-Expr-Function-2, former-Expr-Sends-1}
use Rattle.rx_tree.specs.declared.expr.Expr.TheViews.{out-SendPart, roll-out-SendPart}
use Rattle.rx_tree.specs.declared.expr.Expr.TheFolds.{fold-SendPart, fold-roll-Expr, fold-roll-SendPart}
use Rattle.rx_tree.specs.declared.expr.SendPart.{SendPart}
use Rattle.rx_eval.specs.declared.code.Form.TheVariants as form
use Rattle.rx_eval.specs.declared.code.Instr.{Instr}
use Rattle.rx_eval.specs.declared.code.Instr.TheVariants as i
use Rattle.rx_operators.specs.Families.{is_join}
use Rattle.rx_tree.specs.declared.name.Name.{Name}
use Rattle.rx_eval.specs.declared.code.Callee.{Callee}
use Rattle.rx_eval.specs.declared.code.Callee.TheVariants as callees
use Rattle.rx_eval.specs.declared.code.Calling.{Calling}
use Rattle.rx_eval.specs.declared.code.Sending.{Sending}
use Rattle.rx_eval.specs.Bodies.{Body}
use Rattle.rx_eval.specs.Built.{IsSending}
use Rattle.rx_eval.specs.Calling.{callee, wants_strings}
use Rattle.rx_eval.specs.Reading.{object_named}
use Rattle.rx_eval.specs.Evaluation.{sending}
use Rattle.rx_eval.specs.Places.{Trees, taking, with_function, with_send, made, made_by, takes, receives, is_same, is_object, is_callee, knows_call, knows_send, part_of, runs, fits, marks_of, trees_of}
use Rattle.rx_eval.specs.Whole.{is_whole, whole_level, whole_part, all_args, all_terms, all_parts, args_whole, terms_whole, parts_whole, IsBuilt, stacked, given, AppendsTree}
use Rattle.rx_eval.proofs.Contexts.{behind_chain, before_prefix, sending_sends}
use Rattle.rx_eval.proofs.First.{if_both}
use Rattle.rx_eval.proofs.At.{made_by_append, cut, dropping, receiving, marks_after, marks_made, runs_go}

if_at : (b : Bool) (c d : Bool) → d ≡ true → (if b then c else false) ≡ true → (if b then d else false) ≡ true
if_at true c d g h = g
if_at false c d g h = absurd (false≢true h)

takes_at : (strings : Bool) (shape marks : List Bool) (fit : List Bool → Bool) (go : List Bool → List Bool) (other fin : List Bool → Bool) → ((rest : List Bool) → fit rest ≡ true → other (go rest) ≡ true → fin rest ≡ true)
    → other (dropping shape marks go) ≡ true → takes strings shape marks fit ≡ true → takes strings shape marks fin ≡ true
takes_at strings [] marks fit go other fin g o h = g marks h o
takes_at strings (false ∷ shape) marks fit go other fin g o h = takes_at strings shape marks fit go other fin g o h
takes_at strings (true ∷ shape) [] fit go other fin g o h = absurd (false≢true h)
takes_at strings (true ∷ shape) (mark ∷ marks) fit go other fin g o h =
    if_at (is_same mark strings) (takes strings shape marks fit) (takes strings shape marks fin)
    (takes_at strings shape marks fit go other fin g o (if_both (is_same mark strings) (takes strings shape marks fit) h).1) h

receives_at : (marks : List Bool) (fit other : List Bool → Bool) → receives fit marks ≡ true → other (receiving marks) ≡ true → receives other marks ≡ true
receives_at [] fit other h o = absurd (false≢true h)
receives_at (true ∷ marks) fit other h o = absurd (false≢true h)
receives_at (false ∷ marks) fit other h o = o

-- an instruction runs before whatever runs from what it leaves
runs_at : (body : Body) (instr : Instr) (marks : List Bool) (fit other : List Bool → Bool) → other (marks_after instr marks) ≡ true → runs body instr marks fit ≡ true → runs body instr marks other ≡ true
runs_at body (i.Const value) marks fit other o h = o
runs_at body (i.Name name) marks fit other o h = o
runs_at body (i.Environment name object) marks fit other o h = if_at (is_object object (object_named body name)) (fit (false ∷ marks)) (other (false ∷ marks)) o h
runs_at body (i.Begin form) [] fit other o h = absurd (false≢true h)
runs_at body (i.Begin form) (true ∷ marks) fit other o h = absurd (false≢true h)
runs_at body (i.Begin form) (false ∷ marks) fit other o h = o
runs_at body (i.Oper oper) [] fit other o h = absurd (false≢true h)
runs_at body (i.Oper oper) (true ∷ marks) fit other o h = absurd (false≢true h)
runs_at body (i.Oper oper) (false ∷ []) fit other o h = absurd (false≢true h)
runs_at body (i.Oper oper) (false ∷ left ∷ marks) fit other o h = if_at (is_same left (is_join oper)) (fit (false ∷ marks)) (other (false ∷ marks)) o h
runs_at body (i.Prefix oper) [] fit other o h = absurd (false≢true h)
runs_at body (i.Prefix oper) (true ∷ marks) fit other o h = absurd (false≢true h)
runs_at body (i.Prefix oper) (false ∷ marks) fit other o h = o
runs_at body i.Group [] fit other o h = absurd (false≢true h)
runs_at body i.Group (true ∷ marks) fit other o h = absurd (false≢true h)
runs_at body i.Group (false ∷ marks) fit other o h = o
runs_at body (i.Function call) marks fit other o h =
    let taken = takes (wants_strings call.callee) call.shape marks (λ rest. fit (false ∷ rest)) in
    if_at (knows_call body call) taken (takes (wants_strings call.callee) call.shape marks (λ rest. other (false ∷ rest)))
    (takes_at (wants_strings call.callee) call.shape marks (λ rest. fit (false ∷ rest)) (λ rest. false ∷ rest) other (λ rest. other (false ∷ rest)) (λ rest p q. q) o (if_both (knows_call body call) taken h).1) h
runs_at body (i.Send send) marks fit other o h =
    let taken = takes false send.shape marks (receives fit) in
    if_at (knows_send body send) taken (takes false send.shape marks (receives other))
    (takes_at false send.shape marks (receives fit) receiving other (receives other) (λ rest p q. receives_at rest fit other p q) o (if_both (knows_send body send) taken h).1) h
runs_at body i.Wanted [] fit other o h = absurd (false≢true h)
runs_at body i.Wanted (true ∷ marks) fit other o h = absurd (false≢true h)
runs_at body i.Wanted (false ∷ marks) fit other o h = o

fits_more : (body : Body) (code : List Instr) (instr : Instr) (trees : Trees) → fits body code (marks_of trees) ≡ true → runs body instr (marks_of (made_by code trees)) (λ rest. true) ≡ true → fits body (code ++ instr ∷ []) (marks_of trees) ≡ true
fits_more body [] instr trees h r = r
fits_more body (first ∷ code) instr trees h r =
    runs_at body first (marks_of trees) (fits body code) (fits body (code ++ instr ∷ []))
    (subst (λ marks. fits body (code ++ instr ∷ []) marks ≡ true) (marks_made first trees)
    (fits_more body code instr (made first trees) (subst (λ marks. fits body code marks ≡ true) (sym (marks_made first trees)) (runs_go body first (marks_of trees) (fits body code) h)) r))
    h

pub built_more : (body : Body) (code : List Instr) (instr : Instr) (trees : Trees) → IsBuilt body code trees → runs body instr (marks_of trees) (λ rest. true) ≡ true → IsBuilt body (code ++ instr ∷ []) (made instr trees)
built_more body code instr trees b r = record {
  makes = made_by_append code (instr ∷ []) [] ∙ ap (made instr) b.makes;
  runs = fits_more body code instr [] b.runs (subst (λ t. runs body instr (marks_of t) (λ rest. true) ≡ true) (sym b.makes) r);
}

-- one instruction more

pub built_const : (body : Body) (code : List Instr) (value : Value) (trees : Trees) → IsBuilt body code trees → IsBuilt body (code ++ i.Const value ∷ []) ((e.Const value, false) ∷ trees)
built_const body code value trees b = built_more body code (i.Const value) trees b refl

pub built_name : (body : Body) (code : List Instr) (name : Name) (trees : Trees) → IsBuilt body code trees → IsBuilt body (code ++ i.Name name ∷ []) ((e.Name name, false) ∷ trees)
built_name body code name trees b = built_more body code (i.Name name) trees b refl

object-same : (a : Option ℕ) → is_object a a ≡ true
object-same None = refl
object-same (Some n) = grind (arith, nat_tests)

pub built_environment : (body : Body) (code : List Instr) (name : List ℕ) (trees : Trees) → IsBuilt body code trees
    → IsBuilt body (code ++ i.Environment name (object_named body name) ∷ []) ((e.Environment name, false) ∷ trees)
built_environment body code name trees b =
    built_more body code (i.Environment name (object_named body name)) trees b
    (ap (λ b. if b then true else false) (object-same (object_named body name)))

pub built_group : (body : Body) (code : List Instr) (x : Expr) (trees : Trees) → IsBuilt body code ((x, false) ∷ trees) → IsBuilt body (code ++ i.Group ∷ []) ((e.Group x, false) ∷ trees)
built_group body code x trees b = built_more body code i.Group ((x, false) ∷ trees) b refl

pub built_wanted : (body : Body) (code : List Instr) (x : Expr) (trees : Trees) → IsBuilt body code ((x, false) ∷ trees) → IsBuilt body (code ++ i.Wanted ∷ []) ((x, true) ∷ trees)
built_wanted body code x trees b = built_more body code i.Wanted ((x, false) ∷ trees) b refl

pub built_prefix : (body : Body) (code : List Instr) (oper : Oper) (opers : List Oper) (x : Expr) (trees : Trees) → IsBuilt body code ((e.Prefix opers x, false) ∷ trees) → IsBuilt body (code ++ i.Prefix oper ∷ []) ((e.Prefix (oper ∷ opers) x, false) ∷ trees)
built_prefix body code oper opers x trees b =
    subst (λ y. IsBuilt body (code ++ i.Prefix oper ∷ []) ((y, false) ∷ trees)) (before_prefix oper opers x) (built_more body code (i.Prefix oper) ((e.Prefix opers x, false) ∷ trees) b refl)

is_same-refl : (b : Bool) → is_same b b ≡ true
is_same-refl true = refl
is_same-refl false = refl

pub built_oper : (body : Body) (code : List Instr) (oper : Oper) (first : Expr) (terms : List (Oper × Expr)) (right : Expr) (trees : Trees)
    → IsBuilt body code ((right, false) ∷ (e.Chain first terms, is_join oper) ∷ trees) → IsBuilt body (code ++ i.Oper oper ∷ []) ((e.Chain first (terms ++ (oper, right) ∷ []), false) ∷ trees)
built_oper body code oper first terms right trees b =
    subst (λ y. IsBuilt body (code ++ i.Oper oper ∷ []) ((y, false) ∷ trees)) (behind_chain first terms oper right)
    (built_more body code (i.Oper oper) ((right, false) ∷ (e.Chain first terms, is_join oper) ∷ trees) b
    (ap (λ b. if b then true else false) (is_same-refl (is_join oper))))

-- arguments

taking_stacked : (strings : Bool) (args : List (Option Expr)) (shape : List Bool) (trees : Trees) (more : List (Option Expr)) (go : List (Option Expr) → Trees → Trees)
    → taking (reverse_aux (map given args) shape) (stacked strings args trees) more go ≡ taking shape trees (args ++ more) go
taking_stacked strings [] shape trees more go = refl
taking_stacked strings (None ∷ args) shape trees more go = taking_stacked strings args (false ∷ shape) trees more go
taking_stacked strings (Some arg ∷ args) shape trees more go = taking_stacked strings args (true ∷ shape) ((arg, strings) ∷ trees) more go

takes_stacked : (strings : Bool) (args : List (Option Expr)) (shape : List Bool) (trees : Trees) (fit : List Bool → Bool)
    → takes strings (reverse_aux (map given args) shape) (marks_of (stacked strings args trees)) fit ≡ takes strings shape (marks_of trees) fit
takes_stacked strings [] shape trees fit = refl
takes_stacked strings (None ∷ args) shape trees fit = takes_stacked strings args (false ∷ shape) trees fit
takes_stacked strings (Some arg ∷ args) shape trees fit =
    takes_stacked strings args (true ∷ shape) ((arg, strings) ∷ trees) fit
    ∙ ap (λ b. if b then takes strings shape (marks_of trees) fit else false) (is_same-refl strings)

callee-same : (a : Callee) → is_callee a a ≡ true
callee-same callees.Label = refl
callee-same callees.Builtin = refl
callee-same callees.Routine = refl

if_true : (b c : Bool) → b ≡ true → c ≡ true → (if b then c else false) ≡ true
if_true true c p q = q
if_true false c p q = p

pub built_function : (body : Body) (code : List Instr) (call : Calling) (args : List (Option Expr)) (trees : Trees)
    → call.callee ≡ callee body call.name call.is_string → call.shape ≡ reverse (map given args)
    → IsBuilt body code (stacked (wants_strings call.callee) args trees) → IsBuilt body (code ++ i.Function call ∷ []) ((e.Function call.name call.is_string args, false) ∷ trees)
built_function body code call args trees is shape b =
    subst (λ t. IsBuilt body (code ++ i.Function call ∷ []) t)
    (ap (λ shape. taking shape (stacked (wants_strings call.callee) args trees) [] (with_function call)) shape
    ∙ taking_stacked (wants_strings call.callee) args [] trees [] (with_function call) ∙ ap (λ all. (e.Function call.name call.is_string all, false) ∷ trees) (append-nil args))
    (built_more body code (i.Function call) (stacked (wants_strings call.callee) args trees) b
    (if_true (knows_call body call) (takes (wants_strings call.callee) call.shape (marks_of (stacked (wants_strings call.callee) args trees)) (λ rest. true))
    (ap (is_callee call.callee) (sym is) ∙ callee-same call.callee)
    (ap (λ shape. takes (wants_strings call.callee) shape (marks_of (stacked (wants_strings call.callee) args trees)) (λ rest. true)) shape
    ∙ takes_stacked (wants_strings call.callee) args [] trees (λ rest. true))))

pub built_send : (body : Body) (code : List Instr) (receiver : Expr) (parts : List SendPart) (part : SendPart) (send : Sending) (trees : Trees)
    → IsSending body part send → IsBuilt body code (stacked false part.args ((e.Sends receiver parts, false) ∷ trees))
    → IsBuilt body (code ++ i.Send send ∷ []) ((e.Sends receiver (parts ++ part ∷ []), false) ∷ trees)
built_send body code receiver parts part send trees is b =
    subst (λ t. IsBuilt body (code ++ i.Send send ∷ []) t)
    (ap (λ shape. taking shape (stacked false part.args ((e.Sends receiver parts, false) ∷ trees)) [] (with_send send)) is.shape
    ∙ taking_stacked false part.args [] ((e.Sends receiver parts, false) ∷ trees) [] (with_send send)
    ∙ ap (λ all. (sending (e.Sends receiver parts) (part_of send all), false) ∷ trees) (append-nil part.args)
    ∙ ap (λ y. (sending (e.Sends receiver parts) y, false) ∷ trees) is.is
    ∙ ap (λ y. (y, false) ∷ trees) (sending_sends receiver parts part))
    (built_more body code (i.Send send) (stacked false part.args ((e.Sends receiver parts, false) ∷ trees)) b
    (if_true (knows_send body send) (takes false send.shape (marks_of (stacked false part.args ((e.Sends receiver parts, false) ∷ trees))) (receives (λ rest. true)))
    is.known
    (ap (λ shape. takes false shape (marks_of (stacked false part.args ((e.Sends receiver parts, false) ∷ trees))) (receives (λ rest. true))) is.shape
    ∙ takes_stacked false part.args [] ((e.Sends receiver parts, false) ∷ trees) (receives (λ rest. true)))))

-- The equations of `is_whole`.

abbrev part_whole : SendPart → Bool
part_whole = fold-SendPart Bool Bool whole_level whole_part

args_are : (args : List (Option Expr)) → all_args (former-Expr-Function-2.map Expr Bool is_whole args) ≡ args_whole args
args_are [] = refl
args_are (None ∷ args) = args_are args
args_are (Some arg ∷ args) = ap (λ b. is_whole arg && b) (args_are args)

terms_are : (terms : List (Oper × Expr)) → all_terms (map (λ x. (x.0, is_whole x.1)) terms) ≡ terms_whole terms
terms_are [] = refl
terms_are (term ∷ terms) = ap (λ b. is_whole term.1 && b) (terms_are terms)

part_is : (part : SendPart) → part_whole part ≡ args_whole part.args
unfolding is_whole
part_is part = ap part_whole (sym (roll-out-SendPart part)) ∙ fold-roll-SendPart Bool Bool whole_level whole_part (out-SendPart part) ∙ args_are part.args

parts_are : (parts : List SendPart) → all_parts (former-Expr-Sends-1.map SendPart Bool part_whole parts) ≡ parts_whole parts
parts_are [] = refl
parts_are (part ∷ parts) = ap (λ b. b && all_parts (former-Expr-Sends-1.map SendPart Bool part_whole parts)) (part_is part) ∙ ap (λ b. args_whole part.args && b) (parts_are parts)

pub whole_prefix : (opers : List Oper) (inner : Expr) → is_whole (e.Prefix opers inner) ≡ is_whole inner
unfolding is_whole
whole_prefix opers inner = ap is_whole (sym (e.rolls-Prefix opers inner)) ∙ fold-roll-Expr Bool Bool whole_level whole_part (Expr-F.Prefix opers inner)

pub whole_chain : (first : Expr) (terms : List (Oper × Expr)) → is_whole (e.Chain first terms) ≡ (is_whole first && terms_whole terms)
unfolding is_whole
whole_chain first terms =
    ap is_whole (sym (e.rolls-Chain first terms)) ∙ fold-roll-Expr Bool Bool whole_level whole_part (Expr-F.Chain first terms) ∙ ap (λ b. is_whole first && b) (terms_are terms)

pub whole_group : (inner : Expr) → is_whole (e.Group inner) ≡ is_whole inner
unfolding is_whole
whole_group inner = ap is_whole (sym (e.rolls-Group inner)) ∙ fold-roll-Expr Bool Bool whole_level whole_part (Expr-F.Group inner)

pub whole_function : (name : List ℕ) (is_string : Bool) (args : List (Option Expr)) → is_whole (e.Function name is_string args) ≡ args_whole args
unfolding is_whole
whole_function name is_string args = ap is_whole (sym (e.rolls-Function name is_string args)) ∙ fold-roll-Expr Bool Bool whole_level whole_part (Expr-F.Function name is_string args) ∙ args_are args

pub whole_sends : (receiver : Expr) (parts : List SendPart) → is_whole (e.Sends receiver parts) ≡ (is_whole receiver && parts_whole parts)
unfolding is_whole
whole_sends receiver parts =
    ap is_whole (sym (e.rolls-Sends receiver parts)) ∙ fold-roll-Expr Bool Bool whole_level whole_part (Expr-F.Sends receiver parts) ∙ ap (λ b. is_whole receiver && b) (parts_are parts)

pub whole_hole : is_whole e.Hole ≡ false
unfolding is_whole
whole_hole = ap is_whole (sym e.rolls-Hole) ∙ fold-roll-Expr Bool Bool whole_level whole_part Expr-F.Hole

pub whole_const : (value : Value) → is_whole (e.Const value) ≡ true
unfolding is_whole
whole_const value = ap is_whole (sym (e.rolls-Const value)) ∙ fold-roll-Expr Bool Bool whole_level whole_part (Expr-F.Const value)

pub whole_name : (name : Name) → is_whole (e.Name name) ≡ true
unfolding is_whole
whole_name name = ap is_whole (sym (e.rolls-Name name)) ∙ fold-roll-Expr Bool Bool whole_level whole_part (Expr-F.Name name)

pub whole_environment : (name : List ℕ) → is_whole (e.Environment name) ≡ true
unfolding is_whole
whole_environment name = ap is_whole (sym (e.rolls-Environment name)) ∙ fold-roll-Expr Bool Bool whole_level whole_part (Expr-F.Environment name)

-- for callers that make trees
pub ruleset wholes = (whole_const, whole_name, whole_environment, whole_prefix, whole_chain, whole_group, whole_function, whole_sends, whole_hole)

-- What the functions of `append` do, arm by arm and turn by turn.

abbrev pub Appends : Body → Expr → List Instr → List Instr → Type 0
Appends body expr old new = AppendsTree body expr false old new

IsBuilt-along : (body : Body) (code new : List Instr) (trees : Trees) → new ≡ code → IsBuilt body code trees → IsBuilt body new trees
IsBuilt-along body code new trees e b = subst (λ c. IsBuilt body c trees) (sym e) b

pub arm_const : (body : Body) (expr : Expr) (value : Value) (old new : List Instr) → expr ≡ e.Const value → new ≡ old ++ i.Const value ∷ [] → Appends body expr old new
arm_const body expr value old new is made trees w b =
    subst (λ x. IsBuilt body new ((x, false) ∷ trees)) (sym is) (IsBuilt-along body _ new _ made (built_const body old value trees b))

pub arm_name : (body : Body) (expr : Expr) (name : Name) (old new : List Instr) → expr ≡ e.Name name → new ≡ old ++ i.Name name ∷ [] → Appends body expr old new
arm_name body expr name old new is made trees w b =
    subst (λ x. IsBuilt body new ((x, false) ∷ trees)) (sym is) (IsBuilt-along body _ new _ made (built_name body old name trees b))

pub arm_environment : (body : Body) (expr : Expr) (name : List ℕ) (old new : List Instr) → expr ≡ e.Environment name → new ≡ old ++ i.Environment name (object_named body name) ∷ [] → Appends body expr old new
arm_environment body expr name old new is made trees w b =
    subst (λ x. IsBuilt body new ((x, false) ∷ trees)) (sym is) (IsBuilt-along body _ new _ made (built_environment body old name trees b))

pub arm_group : (body : Body) (expr inner : Expr) (old mid new : List Instr) → expr ≡ e.Group inner → Appends body inner old mid → new ≡ mid ++ i.Group ∷ [] → Appends body expr old new
arm_group body expr inner old mid new is h made trees w b =
    subst (λ x. IsBuilt body new ((x, false) ∷ trees)) (sym is)
    (IsBuilt-along body _ new _ made (built_group body mid inner trees (h trees (sym (whole_group inner) ∙ ap is_whole (sym is) ∙ w) b)))

pub arm_prefix : (body : Body) (expr : Expr) (opers : List Oper) (inner : Expr) (old mid last new : List Instr) → expr ≡ e.Prefix opers inner → Appends body inner old mid → last ≡ mid ++ i.Begin form.Prefix ∷ []
    → ((inner : Expr) (trees : Trees) → IsBuilt body last ((e.Prefix [] inner, false) ∷ trees) → IsBuilt body new ((e.Prefix opers inner, false) ∷ trees)) → Appends body expr old new
arm_prefix body expr opers inner old mid last new is h made k trees w b =
    subst (λ x. IsBuilt body new ((x, false) ∷ trees)) (sym is)
    (k inner trees (IsBuilt-along body _ last _ made (built_more body mid (i.Begin form.Prefix) ((inner, false) ∷ trees) (h trees (sym (whole_prefix opers inner) ∙ ap is_whole (sym is) ∙ w) b) refl)))

both_first : (a b : Bool) → (a && b) ≡ true → a ≡ true
both_first true b h = refl
both_first false b h = h

both_second : (a b : Bool) → (a && b) ≡ true → b ≡ true
both_second true b h = h
both_second false b h = absurd (false≢true h)

pub arm_chain : (body : Body) (expr first : Expr) (terms : List (Oper × Expr)) (old mid last new : List Instr) → expr ≡ e.Chain first terms → Appends body first old mid → last ≡ mid ++ i.Begin form.Chain ∷ []
    → ((first : Expr) (done : List (Oper × Expr)) (trees : Trees) → terms_whole terms ≡ true → IsBuilt body last ((e.Chain first done, false) ∷ trees) → IsBuilt body new ((e.Chain first (done ++ terms), false) ∷ trees)) → Appends body expr old new
arm_chain body expr first terms old mid last new is h made k trees w b =
    let both : (is_whole first && terms_whole terms) ≡ true = sym (whole_chain first terms) ∙ ap is_whole (sym is) ∙ w in
    subst (λ x. IsBuilt body new ((x, false) ∷ trees)) (sym is)
    (k first [] trees (both_second _ _ both)
    (IsBuilt-along body _ last _ made (built_more body mid (i.Begin form.Chain) ((first, false) ∷ trees) (h trees (both_first _ _ both) b) refl)))

pub arm_sends : (body : Body) (expr receiver : Expr) (parts : List SendPart) (old mid last new : List Instr) → expr ≡ e.Sends receiver parts → Appends body receiver old mid → last ≡ mid ++ i.Begin form.Sends ∷ []
    → ((receiver : Expr) (done : List SendPart) (trees : Trees) → parts_whole parts ≡ true → IsBuilt body last ((e.Sends receiver done, false) ∷ trees) → IsBuilt body new ((e.Sends receiver (done ++ parts), false) ∷ trees)) → Appends body expr old new
arm_sends body expr receiver parts old mid last new is h made k trees w b =
    let both : (is_whole receiver && parts_whole parts) ≡ true = sym (whole_sends receiver parts) ∙ ap is_whole (sym is) ∙ w in
    subst (λ x. IsBuilt body new ((x, false) ∷ trees)) (sym is)
    (k receiver [] trees (both_second _ _ both)
    (IsBuilt-along body _ last _ made (built_more body mid (i.Begin form.Sends) ((receiver, false) ∷ trees) (h trees (both_first _ _ both) b) refl)))

pub arm_function : (body : Body) (expr : Expr) (args : List (Option Expr)) (call : Calling) (old mid new : List Instr) → expr ≡ e.Function call.name call.is_string args
    → ((trees : Trees) → args_whole args ≡ true → IsBuilt body old trees → IsBuilt body mid (stacked (wants_strings call.callee) args trees))
    → call.callee ≡ callee body call.name call.is_string → call.shape ≡ reverse (map given args) → new ≡ mid ++ i.Function call ∷ [] → Appends body expr old new
arm_function body expr args call old mid new is h known shape made trees w b =
    subst (λ x. IsBuilt body new ((x, false) ∷ trees)) (sym is)
    (IsBuilt-along body _ new _ made (built_function body mid call args trees known shape (h trees (sym (whole_function call.name call.is_string args) ∙ ap is_whole (sym is) ∙ w) b)))

pub arm_hole : (body : Body) (expr : Expr) (old new : List Instr) → expr ≡ e.Hole → Appends body expr old new
arm_hole body expr old new is trees w b = absurd (false≢true (sym whole_hole ∙ ap is_whole (sym is) ∙ w))

terms_at : (terms : List (Oper × Expr)) (at : ℕ) (term : Oper × Expr) → slice_get terms at ≡ Some term → terms_whole terms ≡ true → is_whole term.1 ≡ true
terms_at [] at term h w = let p : None ≡ Some term = h in cc
terms_at (x ∷ terms) zero term h w = let p : x ≡ term = cc in subst (λ y. is_whole y.1 ≡ true) p (both_first _ _ w)
terms_at (x ∷ terms) (suc at) term h w = terms_at terms at term h (both_second _ _ w)

args_at : (args : List (Option Expr)) (at : ℕ) (arg : Expr) → slice_get args at ≡ Some (Some arg) → args_whole args ≡ true → is_whole arg ≡ true
args_at [] at arg h w = let p : None ≡ Some (Some arg) = h in cc
args_at (None ∷ args) zero arg h w = let p : Some None ≡ Some (Some arg) = h in cc
args_at (Some x ∷ args) zero arg h w = let p : x ≡ arg = cc in subst (λ y. is_whole y ≡ true) p (both_first _ _ w)
args_at (None ∷ args) (suc at) arg h w = args_at args at arg h w
args_at (Some x ∷ args) (suc at) arg h w = args_at args at arg h (both_second _ _ w)

parts_at : (parts : List SendPart) (at : ℕ) (part : SendPart) → slice_get parts at ≡ Some part → parts_whole parts ≡ true → args_whole part.args ≡ true
parts_at [] at part h w = let p : None ≡ Some part = h in cc
parts_at (x ∷ parts) zero part h w = let p : x ≡ part = cc in subst (λ y. args_whole y.args ≡ true) p (both_first _ _ w)
parts_at (x ∷ parts) (suc at) part h w = parts_at parts at part h (both_second _ _ w)

abbrev pub TermsSo : Body → List (Oper × Expr) → ℕ → List Instr → List Instr → Type 0
TermsSo body terms at start code = (first : Expr) (done : List (Oper × Expr)) (trees : Trees) → terms_whole terms ≡ true
    → IsBuilt body start ((e.Chain first done, false) ∷ trees) → IsBuilt body code ((e.Chain first (done ++ take at terms), false) ∷ trees)

pub turn_terms : (body : Body) (terms : List (Oper × Expr)) (at : ℕ) (oper : Oper) (term : Expr) (start code one two new : List Instr) → slice_get terms at ≡ Some (oper, term) → TermsSo body terms at start code
    → ((left : Expr) (trees : Trees) → IsBuilt body code ((left, false) ∷ trees) → IsBuilt body one ((left, is_join oper) ∷ trees)) → Appends body term one two → new ≡ two ++ i.Oper oper ∷ [] → TermsSo body terms (at + 1) start new
turn_terms body terms at oper term start code one two new get so want h made first done trees w b =
    subst (λ all. IsBuilt body new ((e.Chain first all, false) ∷ trees)) (append_assoc done (take at terms) ((oper, term) ∷ []) ∙ ap (λ t. done ++ t) (sym (cut terms at (oper, term) get).1))
    (IsBuilt-along body _ new _ made
    (built_oper body two oper first (done ++ take at terms) term trees
    (h ((e.Chain first (done ++ take at terms), is_join oper) ∷ trees) (terms_at terms at (oper, term) get w)
    (want (e.Chain first (done ++ take at terms)) trees (so first done trees w b)))))

abbrev pub PartsSo : Body → List SendPart → ℕ → List Instr → List Instr → Type 0
PartsSo body parts at start code = (receiver : Expr) (done : List SendPart) (trees : Trees) → parts_whole parts ≡ true
    → IsBuilt body start ((e.Sends receiver done, false) ∷ trees) → IsBuilt body code ((e.Sends receiver (done ++ take at parts), false) ∷ trees)

pub turn_parts : (body : Body) (parts : List SendPart) (at : ℕ) (part : SendPart) (send : Sending) (start code one new : List Instr) → slice_get parts at ≡ Some part → PartsSo body parts at start code
    → ((trees : Trees) → args_whole part.args ≡ true → IsBuilt body code trees → IsBuilt body one (stacked false part.args trees)) → IsSending body part send → new ≡ one ++ i.Send send ∷ [] → PartsSo body parts (at + 1) start new
turn_parts body parts at part send start code one new get so h s made receiver done trees w b =
    subst (λ all. IsBuilt body new ((e.Sends receiver all, false) ∷ trees)) (append_assoc done (take at parts) (part ∷ []) ∙ ap (λ t. done ++ t) (sym (cut parts at part get).1))
    (IsBuilt-along body _ new _ made
    (built_send body one receiver (done ++ take at parts) part send trees s
    (h ((e.Sends receiver (done ++ take at parts), false) ∷ trees) (parts_at parts at part get w) (so receiver done trees w b))))

abbrev pub ArgsSo : Body → Bool → List (Option Expr) → ℕ → List Instr → List Instr → Type 0
ArgsSo body strings args at start code = (trees : Trees) → args_whole args ≡ true → IsBuilt body start trees → IsBuilt body code (stacked strings (take at args) trees)

stacked_none : (strings : Bool) (args : List (Option Expr)) (trees : Trees) → stacked strings (args ++ None ∷ []) trees ≡ stacked strings args trees
stacked_none strings [] trees = refl
stacked_none strings (None ∷ args) trees = stacked_none strings args trees
stacked_none strings (Some arg ∷ args) trees = stacked_none strings args ((arg, strings) ∷ trees)

stacked_some : (strings : Bool) (args : List (Option Expr)) (arg : Expr) (trees : Trees) → stacked strings (args ++ Some arg ∷ []) trees ≡ (arg, strings) ∷ stacked strings args trees
stacked_some strings [] arg trees = refl
stacked_some strings (None ∷ args) arg trees = stacked_some strings args arg trees
stacked_some strings (Some x ∷ args) arg trees = stacked_some strings args arg ((x, strings) ∷ trees)

pub turn_none : (body : Body) (strings : Bool) (args : List (Option Expr)) (at : ℕ) (start code : List Instr) → slice_get args at ≡ Some None → ArgsSo body strings args at start code → ArgsSo body strings args (at + 1) start code
turn_none body strings args at start code get so trees w b =
    subst (λ t. IsBuilt body code t) (sym (stacked_none strings (take at args) trees) ∙ ap (λ all. stacked strings all trees) (sym (cut args at None get).1)) (so trees w b)

pub turn_some : (body : Body) (strings : Bool) (args : List (Option Expr)) (at : ℕ) (arg : Expr) (start code new : List Instr) → slice_get args at ≡ Some (Some arg) → ArgsSo body strings args at start code → AppendsTree body arg strings code new → ArgsSo body strings args (at + 1) start new
turn_some body strings args at arg start code new get so h trees w b =
    subst (λ t. IsBuilt body new t) (sym (stacked_some strings (take at args) arg trees) ∙ ap (λ all. stacked strings all trees) (sym (cut args at (Some arg) get).1))
    (h (stacked strings (take at args) trees) (args_at args at arg get w) (so trees w b))

pub want_join : (body : Body) (oper : Oper) (old new : List Instr) → new ≡ old ++ i.Wanted ∷ [] → is_join oper ≡ true
    → (left : Expr) (trees : Trees) → IsBuilt body old ((left, false) ∷ trees) → IsBuilt body new ((left, is_join oper) ∷ trees)
want_join body oper old new made join left trees b =
    subst (λ mark. IsBuilt body new ((left, mark) ∷ trees)) (sym join) (IsBuilt-along body _ new _ made (built_wanted body old left trees b))

pub turn_opers : (body : Body) (opers : List Oper) (at : ℕ) (inner : Expr) (start code new : List Instr) (d : Oper) (trees : Trees) → 0 < at → at ≤ length opers
    → (IsBuilt body start ((e.Prefix [] inner, false) ∷ trees) → IsBuilt body code ((e.Prefix (drop at opers) inner, false) ∷ trees)) → new ≡ code ++ i.Prefix (get_or opers (at - 1) d) ∷ []
    → IsBuilt body start ((e.Prefix [] inner, false) ∷ trees) → IsBuilt body new ((e.Prefix (drop (at - 1) opers) inner, false) ∷ trees)
turn_opers body opers at inner start code new d trees low high so made b =
    let within : at - 1 < length opers = omega arith in
    let next : suc (at - 1) ≡ at = omega arith in
    let here : drop (at - 1) opers ≡ get_or opers (at - 1) d ∷ drop at opers = drop-cons opers (at - 1) d within ∙ ap (λ n. get_or opers (at - 1) d ∷ drop n opers) next in
    subst (λ all. IsBuilt body new ((e.Prefix all inner, false) ∷ trees)) (sym here)
    (IsBuilt-along body _ new _ made (built_prefix body code (get_or opers (at - 1) d) (drop at opers) inner trees (so b)))

pub tree_wanted : (body : Body) (expr : Expr) (old mid new : List Instr) (string : Bool) → Appends body expr old mid → new ≡ mid ++ i.Wanted ∷ [] → string ≡ true
    → (trees : Trees) → is_whole expr ≡ true → IsBuilt body old trees → IsBuilt body new ((expr, string) ∷ trees)
tree_wanted body expr old mid new string h made is trees w b =
    subst (λ mark. IsBuilt body new ((expr, mark) ∷ trees)) (sym is) (IsBuilt-along body _ new _ made (built_wanted body mid expr trees (h trees w b)))

pub tree_plain : (body : Body) (expr : Expr) (old mid new : List Instr) (string : Bool) → Appends body expr old mid → new ≡ mid → string ≡ false
    → (trees : Trees) → is_whole expr ≡ true → IsBuilt body old trees → IsBuilt body new ((expr, string) ∷ trees)
tree_plain body expr old mid new string h made is trees w b =
    subst (λ mark. IsBuilt body new ((expr, mark) ∷ trees)) (sym is) (IsBuilt-along body _ new _ made (h trees w b))

pub one_more : (body : Body) (code new : List Instr) (expr : Expr) (string : Bool) → fits body code [] ≡ true
    → ((trees : Trees) → is_whole expr ≡ true → IsBuilt body code trees → IsBuilt body new ((expr, string) ∷ trees)) → is_whole expr ≡ true
    → (trees_of new ≡ trees_of code ++ (expr, string) ∷ []) × (fits body new [] ≡ true)
one_more body code new expr string f h w =
    let b : IsBuilt body new ((expr, string) ∷ made_by code []) = h (made_by code []) w (record { makes = refl; runs = f }) in
    (ap reverse b.makes ∙ reverse_onto (made_by code []) (expr, string) [], b.runs)
