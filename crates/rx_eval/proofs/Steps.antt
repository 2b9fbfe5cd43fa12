-- What an instruction does to values is what its tree comes to.
use Rattle.std.proofs.Common.{◌≡◌, ℕ, ◌&&◌, Bool, true, false, Result, Ok, Err, List, [], ◌∷◌, reverse, Option, Some, None, refl, ap, sym, ◌∙◌, subst, arith}
use Rattle.std.proofs.lemmas.Bool.{false≢true}
use Rattle.std.proofs.lemmas.Bool.Decides.{nat_tests}
use Rattle.std.proofs.lemmas.Slice.Eq.{bytes_eq-Decides}
use Rattle.std.specs.Str.{bytes_eq}
use mathlib.Core.List.{reverse_aux}
use Rattle.rx_tree.specs.declared.value.Value.{Value}
use Rattle.rx_tree.specs.declared.value.Value.TheVariants.{Str, Ref}
use Rattle.rx_tree.specs.declared.token.Oper.{Oper}
use Rattle.rx_tree.specs.declared.expr.Expr.{Expr}
use Rattle.rx_tree.specs.declared.expr.Expr.TheVariants as e
use Rattle.rx_operators.specs.Families.{is_join}
use Rattle.rx_operators.specs.Operators.{value, prefix_value}
use Rattle.rx_tree.specs.declared.name.Name.{Name}
use Rattle.rx_tree.specs.declared.activity.Awaited.TheVariants as awaited
use Rattle.rx_eval.specs.declared.call.Pending.{Pending}
use Rattle.rx_eval.specs.declared.call.Sent.TheVariants as calls
use Rattle.rx_eval.specs.declared.code.Callee.{Callee}
use Rattle.rx_eval.specs.declared.code.Callee.TheVariants as callees
use Rattle.rx_eval.specs.declared.code.Calling.{Calling}
use Rattle.rx_eval.specs.declared.code.Class.{Class}
use Rattle.rx_eval.specs.declared.code.Form.{Form}
use Rattle.rx_eval.specs.declared.code.Form.TheVariants as form
use Rattle.rx_eval.specs.declared.code.Sending.{Sending}
use Rattle.rx_eval.specs.declared.code.Instr.{Instr}
use Rattle.rx_eval.specs.declared.code.Instr.TheVariants as i
use Rattle.rx_eval.specs.declared.reading.Reading.{Reading}
use Rattle.rx_eval.specs.declared.reading.Reading.TheVariants as r
use Rattle.rx_eval.specs.Reading.{Scene, environment, object_named, symbol, variable}
use Rattle.rx_eval.specs.Calling.{asks_string, operator_message, message, message_of, pending, callee, wants_strings, in_text, builtin_value}
use Rattle.rx_eval.specs.Evaluation.{Found, Done, Raise, NoValue, Call, follow, wanted, found_of, found_in, operate, operate_before, called, answer, in_scope, of_class, messaged, evaluate, behind, before, sending, AllFound, AllDone, AllRaise, AllNoValue, AllCall, follow_all, in_front, evaluate_all}
use Rattle.rx_eval.specs.Machine.{Moved, Next, Raises, Lacks, Calls, Stuck, is_kept, left_of, moved_by, moved_to, popping, move_oper, move_callee, class_moved, scope_moved, move_send, move}
use Rattle.rx_eval.specs.Places.{Trees, taking, with_function, with_send, begun, made, made_by, takes, receives, is_same, is_object, knows_call, knows_class, knows_send, class_name, part_of, fits, marks_of}
use Rattle.rx_eval.proofs.Equations.{evaluate_const, evaluate_name, evaluate_environment, evaluate_prefix, evaluate_chain, evaluate_group, evaluate_function, evaluate_sends}
use Rattle.rx_eval.proofs.Contexts.{evaluate_before, evaluate_operated, evaluate_sent, arguments_done, behind_const, constants, AreSettled, all_settled}
use Rattle.rx_eval.proofs.First.{front_held, held, held_marks, IsSettled, first_of, if_both, is_same_is, callee_is}

-- what all comes to that code makes of trees
abbrev pub all_of : Scene → List Instr → Trees → AllFound
all_of scene code trees = evaluate_all scene (reverse (made_by code trees))

abbrev pub values_of : List (Value × Bool) → List Value
values_of [] = []
values_of (x ∷ below) = x.0 ∷ values_of below

-- the trees at a call: a hole above constants, or constants alone
abbrev pub holed : Bool → List (Value × Bool) → Trees
holed true below = (e.Hole, false) ∷ held below
holed false below = held below

abbrev pub holed_marks : Bool → List (Value × Bool) → List Bool
holed_marks true below = false ∷ held_marks below
holed_marks false below = held_marks below

abbrev pub resumed : Bool → Instr → List Instr → List Instr
resumed true instr code = instr ∷ code
resumed false instr code = code

abbrev pub resumed_marks : Bool → List Bool → List Bool → List Bool
resumed_marks true marks after = marks
resumed_marks false marks after = after

-- Whether what an instruction did stands for what all comes to.
abbrev pub IsMoved : Scene → Instr → List Instr → List Bool → Trees → AllFound → Moved → Type 0
IsMoved scene instr code marks trees all (Next values) = (below : List (Value × Bool)) × (values_of below ≡ values) × IsSettled below × (held_marks below ≡ marks_of trees) × (all ≡ all_of scene code (held below))
IsMoved scene instr code marks trees all (Raises number) = all ≡ AllRaise number
IsMoved scene instr code marks trees all (Lacks name) = all ≡ AllNoValue name
IsMoved scene instr code marks trees all (Calls sent again values) = (below : List (Value × Bool)) × (values_of below ≡ values) × IsSettled below × (holed_marks (is_kept sent.awaited) below ≡ resumed_marks again marks (marks_of trees)) × (all ≡ AllCall sent (reverse (made_by (resumed again instr code) (holed (is_kept sent.awaited) below))))
IsMoved scene instr code marks trees all Stuck = ⊥

abbrev pub Steps : Scene → Instr → List Instr → List (Value × Bool) → Moved → Type 0
Steps scene instr code below moved = IsMoved scene instr code (held_marks below) (made instr (held below)) (all_of scene (instr ∷ code) (held below)) moved

pub held_marks_are : (below : List (Value × Bool)) → held_marks below ≡ marks_of (held below)
held_marks_are [] = refl
held_marks_are (x ∷ below) = ap (λ rest. x.1 ∷ rest) (held_marks_are below)

steps_const : (scene : Scene) (code : List Instr) (value : Value) (below : List (Value × Bool)) → IsSettled below → Steps scene (i.Const value) code below (Next (value ∷ values_of below))
steps_const scene code value below s = ((value, false) ∷ below, refl, (refl, s), ap (λ rest. false ∷ rest) (held_marks_are below), refl)

-- An expression that stands above constants, before code: what follows from what it comes to.
abbrev on_top : Scene → List Instr → List (Value × Bool) → Expr → AllFound
on_top scene code below x = all_of scene code ((x, false) ∷ held below)

top : (scene : Scene) (code : List Instr) (below : List (Value × Bool)) (x : Expr) → fits scene.body code (false ∷ held_marks below) ≡ true → IsSettled below → (found : Found) → evaluate scene x ≡ found
    → on_top scene code below x ≡ follow_all found (λ rest. reverse (made_by code ((rest, false) ∷ held below))) (λ value. all_of scene code ((e.Const value, false) ∷ held below))
top scene code below x h s found p =
    first_of scene code [] false below h s x
    ∙ ap (λ found. follow_all found (λ rest. reverse (made_by code ((rest, false) ∷ held below))) (λ value. all_of scene code ((e.Const value, false) ∷ held below))) p

moved_next : (scene : Scene) (instr : Instr) (code : List Instr) (marks : List Bool) (below : List (Value × Bool)) (x : Expr) (value : Value) → fits scene.body code (false ∷ held_marks below) ≡ true → IsSettled below → evaluate scene x ≡ Done value
    → IsMoved scene instr code marks ((x, false) ∷ held below) (on_top scene code below x) (Next (value ∷ values_of below))
moved_next scene instr code marks below x value h s p =
    ((value, false) ∷ below, refl, (refl, s), ap (λ rest. false ∷ rest) (held_marks_are below), top scene code below x h s (Done value) p)

moved_outcome : (scene : Scene) (instr : Instr) (code : List Instr) (marks : List Bool) (below : List (Value × Bool)) (x : Expr) → fits scene.body code (false ∷ held_marks below) ≡ true → IsSettled below
    → (outcome : Result Value ℕ) → evaluate scene x ≡ found_of outcome
    → IsMoved scene instr code marks ((x, false) ∷ held below) (on_top scene code below x) (moved_by (values_of below) outcome)
moved_outcome scene instr code marks below x h s (Ok value) p = moved_next scene instr code marks below x value h s p
moved_outcome scene instr code marks below x h s (Err number) p = top scene code below x h s (Raise number) p

moved_call : (scene : Scene) (instr : Instr) (code : List Instr) (marks : List Bool) (below : List (Value × Bool)) (x : Expr) (sent : Pending) → is_kept sent.awaited ≡ true
    → fits scene.body code (false ∷ held_marks below) ≡ true → IsSettled below → evaluate scene x ≡ Call sent e.Hole
    → IsMoved scene instr code marks ((x, false) ∷ held below) (on_top scene code below x) (Calls sent false (values_of below))
moved_call scene instr code marks below x sent k h s p = (
  below,
  refl,
  s,
  ap (λ b. holed_marks b below) k ∙ ap (λ rest. false ∷ rest) (held_marks_are below),
  top scene code below x h s (Call sent e.Hole) p ∙ ap (λ b. AllCall sent (reverse (made_by code (holed b below)))) (sym k),
)

moved_reading : (scene : Scene) (instr : Instr) (code : List Instr) (marks : List Bool) (below : List (Value × Bool)) (x : Expr) → fits scene.body code (false ∷ held_marks below) ≡ true → IsSettled below
    → (reading : Reading) → evaluate scene x ≡ found_in reading
    → IsMoved scene instr code marks ((x, false) ∷ held below) (on_top scene code below x) (moved_to (values_of below) reading)
moved_reading scene instr code marks below x h s (r.Gives value) p = moved_next scene instr code marks below x value h s p
moved_reading scene instr code marks below x h s (r.NoValue name) p = top scene code below x h s (NoValue name) p
moved_reading scene instr code marks below x h s (r.Raises number) p = top scene code below x h s (Raise number) p

steps_name : (scene : Scene) (code : List Instr) (name : Name) (below : List (Value × Bool)) → fits scene.body code (false ∷ held_marks below) ≡ true → IsSettled below
    → Steps scene (i.Name name) code below (moved_to (values_of below) (variable scene.facts name))
steps_name scene code name below h s = moved_reading scene (i.Name name) code (held_marks below) below (e.Name name) h s (variable scene.facts name) (evaluate_name scene name)

object_is : (a b : Option ℕ) → is_object a b ≡ true → a ≡ b
object_is None None h = refl
object_is None (Some n) h = absurd (false≢true h)
object_is (Some m) None h = absurd (false≢true h)
object_is (Some m) (Some n) h = let p : m ≡ n = grind (arith, nat_tests) in ap Some p

steps_environment : (scene : Scene) (code : List Instr) (name : List ℕ) (object : Option ℕ) (below : List (Value × Bool)) → fits scene.body (i.Environment name object ∷ code) (held_marks below) ≡ true → IsSettled below
    → Steps scene (i.Environment name object) code below (Next (environment name object ∷ values_of below))
steps_environment scene code name object below h s =
    let both = if_both (is_object object (object_named scene.body name)) (fits scene.body code (false ∷ held_marks below)) h in
    moved_next scene (i.Environment name object) code (held_marks below) below (e.Environment name) (environment name object) both.1 s
    (evaluate_environment scene name ∙ ap (λ o. Done (environment name o)) (sym (object_is object (object_named scene.body name) both.0)))

begun_const : (scene : Scene) (f : Form) (value : Value) → evaluate scene (begun f (e.Const value)) ≡ Done value
begun_const scene form.Prefix value = evaluate_prefix scene [] (e.Const value) ∙ ap (λ found. follow found (λ rest. e.Prefix [] rest) Done) (evaluate_const scene value)
begun_const scene form.Chain value = evaluate_chain scene (e.Const value) [] ∙ ap (λ found. follow found (λ rest. e.Chain rest []) Done) (evaluate_const scene value)
begun_const scene form.Sends value = evaluate_sends scene (e.Const value) [] ∙ ap (λ found. follow found (λ rest. e.Sends rest []) Done) (evaluate_const scene value)

steps_begin : (scene : Scene) (code : List Instr) (f : Form) (below : List (Value × Bool)) → fits scene.body (i.Begin f ∷ code) (held_marks below) ≡ true → IsSettled below
    → Steps scene (i.Begin f) code below (Next (values_of below))
steps_begin scene code f [] h s = absurd (false≢true h)
steps_begin scene code f ((v, true) ∷ below) h s = absurd (false≢true h)
steps_begin scene code f ((v, false) ∷ below) h s = moved_next scene (i.Begin f) code (false ∷ held_marks below) below (begun f (e.Const v)) v h s.1 (begun_const scene f v)

steps_group : (scene : Scene) (code : List Instr) (below : List (Value × Bool)) → fits scene.body (i.Group ∷ code) (held_marks below) ≡ true → IsSettled below
    → Steps scene i.Group code below (Next (values_of below))
steps_group scene code [] h s = absurd (false≢true h)
steps_group scene code ((v, true) ∷ below) h s = absurd (false≢true h)
steps_group scene code ((v, false) ∷ below) h s =
    moved_next scene i.Group code (false ∷ held_marks below) below (e.Group (e.Const v)) v h s.1
    (evaluate_group scene (e.Const v) ∙ ap (λ found. follow found e.Group Done) (evaluate_const scene v))

before_const : (scene : Scene) (oper : Oper) (value : Value) → evaluate scene (before oper (e.Const value)) ≡ operate_before scene.facts.frame.digits oper value
before_const scene oper value = evaluate_before scene oper (e.Const value) ∙ ap (λ found. follow found (before oper) (operate_before scene.facts.frame.digits oper)) (evaluate_const scene value)

steps_prefix : (scene : Scene) (code : List Instr) (oper : Oper) (below : List (Value × Bool)) → fits scene.body (i.Prefix oper ∷ code) (held_marks below) ≡ true → IsSettled below
    → Steps scene (i.Prefix oper) code below (move scene.facts (i.Prefix oper) (values_of below))
steps_prefix scene code oper [] h s = absurd (false≢true h)
steps_prefix scene code oper ((v, true) ∷ below) h s = absurd (false≢true h)
steps_prefix scene code oper ((Ref object, false) ∷ below) h s =
    moved_call scene (i.Prefix oper) code (false ∷ held_marks below) below (before oper (e.Const (Ref object))) (operator_message oper object []) refl h s.1 (before_const scene oper (Ref object))
steps_prefix scene code oper ((Str right, false) ∷ below) h s =
    moved_outcome scene (i.Prefix oper) code (false ∷ held_marks below) below (before oper (e.Const (Str right))) h s.1 (in_text (prefix_value oper right scene.facts.frame.digits)) (before_const scene oper (Str right))

operated_const : (scene : Scene) (oper : Oper) (left right : Value) → wanted (is_join oper) (Done left) ≡ Done left → evaluate scene (behind (e.Const left) oper (e.Const right)) ≡ operate scene.facts.frame.digits oper left right
operated_const scene oper left right h =
    evaluate_operated scene left oper (e.Const right) h ∙ ap (λ found. follow found (λ rest. behind (e.Const left) oper rest) (operate scene.facts.frame.digits oper left)) (evaluate_const scene right)

steps_operate : (scene : Scene) (code : List Instr) (oper : Oper) (left right : Value) (mark : Bool) (below : List (Value × Bool))
    → wanted (is_join oper) (Done left) ≡ Done left → wanted mark (Done left) ≡ Done left → fits scene.body code (false ∷ held_marks below) ≡ true → IsSettled below
    → Steps scene (i.Oper oper) code ((right, false) ∷ (left, mark) ∷ below) (move_oper scene.facts.frame.digits oper left right (values_of below))
steps_operate scene code oper (Ref object) right mark below w k h s =
    moved_call scene (i.Oper oper) code (false ∷ mark ∷ held_marks below) below (behind (e.Const (Ref object)) oper (e.Const right)) (operator_message oper object (Some right ∷ [])) refl h s (operated_const scene oper (Ref object) right w)
steps_operate scene code oper (Str left) (Str right) mark below w k h s =
    moved_outcome scene (i.Oper oper) code (false ∷ mark ∷ held_marks below) below (behind (e.Const (Str left)) oper (e.Const (Str right))) h s (in_text (value oper left right scene.facts.frame.digits)) (operated_const scene oper (Str left) (Str right) w)
steps_operate scene code oper (Str left) (Ref object) mark below w k h s = (
  (Str left, mark) ∷ below,
  refl,
  (k, s),
  refl,
  top scene code below (behind (e.Const (Str left)) oper (e.Const (Ref object))) h s (Call (asks_string object) (e.Chain (e.Const (Str left)) ((oper, e.Hole) ∷ []))) (operated_const scene oper (Str left) (Ref object) w)
      ∙ ap (λ x. AllCall (asks_string object) (reverse (made_by code ((x, false) ∷ held below)))) (sym (behind_const (Str left) oper e.Hole)),
)

steps_oper : (scene : Scene) (code : List Instr) (oper : Oper) (below : List (Value × Bool)) → fits scene.body (i.Oper oper ∷ code) (held_marks below) ≡ true → IsSettled below
    → Steps scene (i.Oper oper) code below (move scene.facts (i.Oper oper) (values_of below))
steps_oper scene code oper [] h s = absurd (false≢true h)
steps_oper scene code oper ((r, true) ∷ below) h s = absurd (false≢true h)
steps_oper scene code oper ((r, false) ∷ []) h s = absurd (false≢true h)
steps_oper scene code oper ((r, false) ∷ l ∷ below) h s =
    let both = if_both (is_same l.1 (is_join oper)) (fits scene.body code (false ∷ held_marks below)) h in
    steps_operate scene code oper l.0 r l.1 below (subst (λ m. wanted m (Done l.0) ≡ Done l.0) (is_same_is l.1 (is_join oper) both.0) s.1.0) s.1.0 both.1 s.1.1

steps_wanted : (scene : Scene) (code : List Instr) (below : List (Value × Bool)) → fits scene.body (i.Wanted ∷ code) (held_marks below) ≡ true → IsSettled below
    → Steps scene i.Wanted code below (move scene.facts i.Wanted (values_of below))
steps_wanted scene code [] h s = absurd (false≢true h)
steps_wanted scene code ((v, true) ∷ below) h s = absurd (false≢true h)
steps_wanted scene code ((Str bytes, false) ∷ below) h s = ((Str bytes, true) ∷ below, refl, (refl, s.1), ap (λ rest. true ∷ rest) (held_marks_are below), refl)
steps_wanted scene code ((Ref object, false) ∷ below) h s = (
  below,
  refl,
  s.1,
  refl,
  first_of scene code [] true below h s.1 (e.Const (Ref object))
      ∙ ap (λ found. follow_all (wanted true found) (λ rest. reverse (made_by code ((rest, true) ∷ held below))) (λ value. all_of scene code ((e.Const value, true) ∷ held below))) (evaluate_const scene (Ref object)),
)

-- Arguments.

taking_popping : (P : Trees → Moved → Type 0) (strings : Bool) (fit : List Bool → Bool) (go : List (Option Expr) → Trees → Trees) (go_on : List (Option Value) → List Value → Moved)
    → ((values : List (Option Value)) (below : List (Value × Bool)) → AreSettled strings values → fit (held_marks below) ≡ true → IsSettled below → P (go (constants values) (held below)) (go_on values (values_of below)))
    → (shape : List Bool) (values : List (Option Value)) (below : List (Value × Bool)) → AreSettled strings values → takes strings shape (held_marks below) fit ≡ true → IsSettled below
    → P (taking shape (held below) (constants values) go) (popping shape (values_of below) values go_on)
taking_popping P strings fit go go_on hyp [] values below t h s = hyp values below t h s
taking_popping P strings fit go go_on hyp (false ∷ shape) values below t h s = taking_popping P strings fit go go_on hyp shape (None ∷ values) below t h s
taking_popping P strings fit go go_on hyp (true ∷ shape) values [] t h s = absurd (false≢true h)
taking_popping P strings fit go go_on hyp (true ∷ shape) values (b ∷ below) t h s =
    let both = if_both (is_same b.1 strings) (takes strings shape (held_marks below) fit) h in
    taking_popping P strings fit go go_on hyp shape (Some b.0 ∷ values) below
    (subst (λ m. wanted m (Done b.0) ≡ Done b.0) (is_same_is b.1 strings both.0) s.0, t) both.1 s.1

-- Functions.

function_const : (scene : Scene) (call : Calling) (values : List (Option Value)) → call.callee ≡ callee scene.body call.name call.is_string → AreSettled (wants_strings call.callee) values
    → evaluate scene (e.Function call.name call.is_string (constants values)) ≡ called scene call.callee call.name values
function_const scene call values is t =
    subst (λ c. AreSettled (wants_strings c) values → evaluate scene (e.Function call.name call.is_string (constants values)) ≡ called scene c call.name values) (sym is)
    (λ t. evaluate_function scene call.name call.is_string (constants values)
    ∙ arguments_done scene (wants_strings (callee scene.body call.name call.is_string)) values (e.Function call.name call.is_string) (called scene (callee scene.body call.name call.is_string) call.name) t)
    t

moved_called : (scene : Scene) (instr : Instr) (code : List Instr) (marks : List Bool) (below : List (Value × Bool)) (x : Expr) (name : List ℕ) (values : List (Option Value)) → fits scene.body code (false ∷ held_marks below) ≡ true → IsSettled below
    → (callee : Callee) → evaluate scene x ≡ called scene callee name values
    → IsMoved scene instr code marks ((x, false) ∷ held below) (on_top scene code below x) (move_callee scene.facts callee name values (values_of below))
moved_called scene instr code marks below x name values h s callees.Label p = moved_call scene instr code marks below x (pending (calls.Label name values) awaited.Function) refl h s p
moved_called scene instr code marks below x name values h s callees.Builtin p = moved_outcome scene instr code marks below x h s (builtin_value scene.facts name values) p
moved_called scene instr code marks below x name values h s callees.Routine p = moved_call scene instr code marks below x (pending (calls.Routine name values) awaited.Function) refl h s p

steps_function : (scene : Scene) (code : List Instr) (call : Calling) (below : List (Value × Bool)) → fits scene.body (i.Function call ∷ code) (held_marks below) ≡ true → IsSettled below
    → Steps scene (i.Function call) code below (move scene.facts (i.Function call) (values_of below))
steps_function scene code call below h s =
    let both = if_both (knows_call scene.body call) (takes (wants_strings call.callee) call.shape (held_marks below) (λ rest. fits scene.body code (false ∷ rest))) h in
    let is = callee_is call.callee (callee scene.body call.name call.is_string) both.0 in
    taking_popping (λ trees moved. IsMoved scene (i.Function call) code (held_marks below) trees (all_of scene code trees) moved)
    (wants_strings call.callee) (λ rest. fits scene.body code (false ∷ rest)) (with_function call) (move_callee scene.facts call.callee call.name)
    (λ values rest t h s. moved_called scene (i.Function call) code (held_marks below) rest (e.Function call.name call.is_string (constants values)) call.name values h s call.callee (function_const scene call values is t))
    call.shape [] below tt both.1 s

-- Messages.

sent_const : (scene : Scene) (target : Value) (send : Sending) (values : List (Option Value))
    → evaluate scene (sending (e.Const target) (part_of send (constants values))) ≡ messaged scene (part_of send []) target values
sent_const scene target send values =
    evaluate_sent scene target send (constants values)
    ∙ arguments_done scene false values (λ rest. e.Sends (e.Const target) (part_of send rest ∷ [])) (messaged scene (part_of send []) target) (all_settled values)

moved_message : (scene : Scene) (instr : Instr) (code : List Instr) (marks : List Bool) (name : List ℕ) (back : Bool) (values : List (Option Value)) (t : Value) (below : List (Value × Bool)) (x : Expr) (scope : Option ℕ)
    → fits scene.body code (false ∷ held_marks below) ≡ true → IsSettled ((t, false) ∷ below) → evaluate scene x ≡ Call (message t name back scope values) (answer back t)
    → IsMoved scene instr code marks ((x, false) ∷ held below) (on_top scene code below x) (Calls (message t name back scope values) false (left_of back t (values_of below)))
moved_message scene instr code marks name false values t below x scope h s p = moved_call scene instr code marks below x (message t name false scope values) refl h s.1 p
moved_message scene instr code marks name true values t below x scope h s p =
    ((t, false) ∷ below, refl, s, ap (λ rest. false ∷ rest) (held_marks_are below), top scene code below x h s.1 (Call (message t name true scope values) (e.Const t)) p)

moved_class : (scene : Scene) (instr : Instr) (code : List Instr) (marks : List Bool) (name : List ℕ) (back : Bool) (values : List (Option Value)) (t : Value) (below : List (Value × Bool)) (x : Expr)
    → fits scene.body code (false ∷ held_marks below) ≡ true → IsSettled ((t, false) ∷ below) → (reading : Reading)
    → evaluate scene x ≡ of_class reading (λ scope. Call (message t name back scope values) (answer back t))
    → IsMoved scene instr code marks ((x, false) ∷ held below) (on_top scene code below x) (class_moved reading (λ scope. Calls (message t name back scope values) false (left_of back t (values_of below))))
moved_class scene instr code marks name back values t below x h s (r.Gives (Str bytes)) p = top scene code below x h s.1 (Raise 93) p
moved_class scene instr code marks name back values t below x h s (r.Gives (Ref object)) p = moved_message scene instr code marks name back values t below x (Some object) h s p
moved_class scene instr code marks name back values t below x h s (r.NoValue class) p = top scene code below x h s.1 (NoValue class) p
moved_class scene instr code marks name back values t below x h s (r.Raises number) p = top scene code below x h s.1 (Raise number) p

moved_scope : (scene : Scene) (instr : Instr) (code : List Instr) (marks : List Bool) (name : List ℕ) (back : Bool) (values : List (Option Value)) (t : Value) (below : List (Value × Bool)) (x : Expr)
    → fits scene.body code (false ∷ held_marks below) ≡ true → IsSettled ((t, false) ∷ below) → (class : Option Class) → knows_class scene.body class ≡ true
    → evaluate scene x ≡ in_scope scene (class_name class) (λ scope. Call (message t name back scope values) (answer back t))
    → IsMoved scene instr code marks ((x, false) ∷ held below) (on_top scene code below x) (scope_moved scene.facts class (λ scope. Calls (message t name back scope values) false (left_of back t (values_of below))))
moved_scope scene instr code marks name back values t below x h s None k p = moved_message scene instr code marks name back values t below x None h s p
moved_scope scene instr code marks name back values t below x h s (Some class) k p =
    moved_class scene instr code marks name back values t below x h s (symbol scene.facts class.name class.object)
    (p ∙ ap (λ o. of_class (symbol scene.facts class.name o) (λ scope. Call (message t name back scope values) (answer back t))) (sym (object_is class.object (object_named scene.body class.name) k)))

both_are : (a b : Bool) → (a && b) ≡ true → (a ≡ true) × (b ≡ true)
both_are true b h = (refl, h)
both_are false b h = absurd (false≢true h)

moved_send : (scene : Scene) (instr : Instr) (code : List Instr) (marks : List Bool) (send : Sending) (values : List (Option Value)) (below : List (Value × Bool))
    → knows_send scene.body send ≡ true → receives (fits scene.body code) (held_marks below) ≡ true → IsSettled below
    → IsMoved scene instr code marks (with_send send (constants values) (held below)) (all_of scene code (with_send send (constants values) (held below))) (move_send scene.facts send values (values_of below))
moved_send scene instr code marks send values [] k h s = absurd (false≢true h)
moved_send scene instr code marks send values ((t, true) ∷ below) k h s = absurd (false≢true h)
moved_send scene instr code marks send values ((t, false) ∷ below) k h s =
    let known = both_are (bytes_eq send.message (message_of send.name send.bracket)) (knows_class scene.body send.class) k in
    let is : send.message ≡ message_of send.name send.bracket = (bytes_eq-Decides send.message (message_of send.name send.bracket)).0 known.0 in
    moved_scope scene instr code marks send.message send.back values t below (sending (e.Const t) (part_of send (constants values))) h s send.class known.1
    (sent_const scene t send values ∙ ap (λ name. in_scope scene (class_name send.class) (λ scope. Call (message t name send.back scope values) (answer send.back t))) (sym is))

steps_send : (scene : Scene) (code : List Instr) (send : Sending) (below : List (Value × Bool)) → fits scene.body (i.Send send ∷ code) (held_marks below) ≡ true → IsSettled below
    → Steps scene (i.Send send) code below (move scene.facts (i.Send send) (values_of below))
steps_send scene code send below h s =
    let both = if_both (knows_send scene.body send) (takes false send.shape (held_marks below) (receives (fits scene.body code))) h in
    taking_popping (λ trees moved. IsMoved scene (i.Send send) code (held_marks below) trees (all_of scene code trees) moved)
    false (receives (fits scene.body code)) (with_send send) (move_send scene.facts send)
    (λ values rest t h s. moved_send scene (i.Send send) code (held_marks below) send values rest both.0 h s)
    send.shape [] below tt both.1 s

pub steps : (scene : Scene) (instr : Instr) (code : List Instr) (below : List (Value × Bool)) → fits scene.body (instr ∷ code) (held_marks below) ≡ true → IsSettled below
    → Steps scene instr code below (move scene.facts instr (values_of below))
steps scene (i.Const value) code below h s = steps_const scene code value below s
steps scene (i.Name name) code below h s = steps_name scene code name below h s
steps scene (i.Environment name object) code below h s = steps_environment scene code name object below h s
steps scene (i.Begin f) code below h s = steps_begin scene code f below h s
steps scene (i.Oper oper) code below h s = steps_oper scene code oper below h s
steps scene (i.Prefix oper) code below h s = steps_prefix scene code oper below h s
steps scene i.Group code below h s = steps_group scene code below h s
steps scene (i.Function call) code below h s = steps_function scene code call below h s
steps scene (i.Send send) code below h s = steps_send scene code send below h s
steps scene i.Wanted code below h s = steps_wanted scene code below h s

-- at the end of the code: the values
pub ended : (scene : Scene) (below : List (Value × Bool)) (others : Trees) (values : List Value) → IsSettled below → evaluate_all scene others ≡ AllDone values
    → evaluate_all scene (reverse_aux (held below) others) ≡ AllDone (reverse_aux (values_of below) values)
ended scene [] others values s p = p
ended scene (x ∷ below) others values s p =
    ended scene below ((e.Const x.0, x.1) ∷ others) (x.0 ∷ values) s.1 (front_held scene x.0 x.1 others s.0 ∙ ap (in_front x.0 x.1) p)
