-- Above constants, the first tree is what is evaluated first, whatever code follows.
use Rattle.std.proofs.Common.{◌≡◌, Bool, true, false, if◌then◌else◌, List, [], ◌∷◌, ◌++◌, reverse, Option, Some, None, refl, ap, sym, ◌∙◌, subst}
use Rattle.std.proofs.lemmas.Bool.{false≢true}
use mathlib.Core.List.{reverse_aux}
use Rattle.rx_tree.specs.declared.value.Value.{Value}
use Rattle.rx_tree.specs.declared.value.Value.TheVariants.{Str, Ref}
use Rattle.rx_tree.specs.declared.token.Oper.{Oper}
use Rattle.rx_tree.specs.declared.expr.Expr.{Expr}
use Rattle.rx_tree.specs.declared.expr.Expr.TheVariants as e
use Rattle.rx_eval.specs.declared.code.Form.{Form}
use Rattle.rx_eval.specs.declared.code.Instr.{Instr}
use Rattle.rx_eval.specs.declared.code.Instr.TheVariants as i
use Rattle.rx_operators.specs.Families.{is_join}
use Rattle.rx_eval.specs.declared.code.Callee.{Callee}
use Rattle.rx_eval.specs.declared.code.Callee.TheVariants as callees
use Rattle.rx_eval.specs.declared.code.Calling.{Calling}
use Rattle.rx_eval.specs.declared.code.Sending.{Sending}
use Rattle.rx_eval.specs.Calling.{callee, wants_strings}
use Rattle.rx_eval.specs.Reading.{Scene, object_named}
use Rattle.rx_eval.specs.Evaluation.{Found, Done, Raise, NoValue, Call, follow, wanted, evaluate, behind, before, sending, AllFound, follow_all, in_front, evaluate_all}
use Rattle.rx_eval.specs.Places.{Trees, taking, with_function, with_send, begun, made_by, takes, receives, is_same, is_object, is_callee, knows_call, knows_send, fits, marks_of, part_of}
use Rattle.rx_eval.proofs.Equations.{evaluate_const}
use Rattle.rx_eval.proofs.Contexts.{IsContext, context_begin, context_group, context_before, context_wanted, context_left, context_right, context_receiver, context_function, context_send, constants, AreSettled}

-- constants on the stack, each with whether a string was wanted
abbrev pub held : List (Value × Bool) → Trees
held [] = []
held (x ∷ below) = (e.Const x.0, x.1) ∷ held below

abbrev pub held_marks : List (Value × Bool) → List Bool
held_marks [] = []
held_marks (x ∷ below) = x.1 ∷ held_marks below

abbrev pub IsSettled : List (Value × Bool) → Type 0
IsSettled [] = Unit {0}
IsSettled (x ∷ below) = (wanted x.1 (Done x.0) ≡ Done x.0) × IsSettled below

follow_all_follow : (found : Found) (c : Expr → Expr) (k : Value → Found) (d : Expr → List (Expr × Bool)) (l : Value → AllFound)
    → follow_all (follow found c k) d l ≡ follow_all found (λ rest. d (c rest)) (λ value. follow_all (k value) d l)
follow_all_follow (Done value) c k d l = refl
follow_all_follow (Raise number) c k d l = refl
follow_all_follow (NoValue name) c k d l = refl
follow_all_follow (Call sent rest) c k d l = refl

follow_all_same : (found : Found) (d : Expr → List (Expr × Bool)) (k l : Value → AllFound)
    → ((value : Value) → k value ≡ l value) → follow_all found d k ≡ follow_all found d l
follow_all_same (Done value) d k l h = h value
follow_all_same (Raise number) d k l h = refl
follow_all_same (NoValue name) d k l h = refl
follow_all_same (Call sent rest) d k l h = refl

in_front_follow : (value : Value) (mark : Bool) (found : Found) (d : Expr → List (Expr × Bool)) (k : Value → AllFound)
    → in_front value mark (follow_all found d k) ≡ follow_all found (λ rest. (e.Const value, mark) ∷ d rest) (λ v. in_front value mark (k v))
in_front_follow value mark (Done v) d k = refl
in_front_follow value mark (Raise number) d k = refl
in_front_follow value mark (NoValue name) d k = refl
in_front_follow value mark (Call sent rest) d k = refl

follow_all_twice : (mark : Bool) (found : Found) (d : Expr → List (Expr × Bool)) (k : Value → AllFound)
    → follow_all (wanted mark found) d k ≡ follow_all (wanted mark found) d (λ value. follow_all (wanted mark (Done value)) d k)
follow_all_twice false found d k = refl
follow_all_twice true (Done (Str bytes)) d k = refl
follow_all_twice true (Done (Ref object)) d k = refl
follow_all_twice true (Raise number) d k = refl
follow_all_twice true (NoValue name) d k = refl
follow_all_twice true (Call sent rest) d k = refl

-- In trees of which one hangs on an expression, behind code, the expression is evaluated first.
abbrev pub Claim : Scene → List Instr → Bool → (Expr → Trees) → Type 0
Claim scene code mark trees = (x : Expr)
    → evaluate_all scene (reverse (made_by code (trees x)))
    ≡ follow_all (wanted mark (evaluate scene x)) (λ rest. reverse (made_by code (trees rest))) (λ value. evaluate_all scene (reverse (made_by code (trees (e.Const value)))))

compose : (scene : Scene) (code : List Instr) (m : Bool) (c : Expr → Expr) (n : Bool) (trees : Expr → Trees)
    → IsContext scene m c n → Claim scene code n trees → Claim scene code m (λ x. trees (c x))
compose scene code m c n trees context claim x =
    claim (c x)
    ∙ ap (λ found. follow_all found (λ rest. reverse (made_by code (trees rest))) (λ value. evaluate_all scene (reverse (made_by code (trees (e.Const value)))))) (context x)
    ∙ follow_all_follow (wanted m (evaluate scene x)) c (λ value. wanted n (evaluate scene (c (e.Const value)))) (λ rest. reverse (made_by code (trees rest))) (λ value. evaluate_all scene (reverse (made_by code (trees (e.Const value)))))
    ∙ follow_all_same (wanted m (evaluate scene x)) (λ rest. reverse (made_by code (trees (c rest)))) _ (λ value. evaluate_all scene (reverse (made_by code (trees (c (e.Const value))))))
    (λ value. sym (claim (c (e.Const value))))

-- at the end of the code

abbrev onto : Trees → Trees → Trees
onto = reverse_aux

abbrev front_claim : Scene → Bool → (Expr → Trees) → Type 0
front_claim scene mark trees = (x : Expr)
    → evaluate_all scene (trees x) ≡ follow_all (wanted mark (evaluate scene x)) trees (λ value. evaluate_all scene (trees (e.Const value)))

pub front_held : (scene : Scene) (value : Value) (mark : Bool) (trees : Trees) → wanted mark (Done value) ≡ Done value
    → evaluate_all scene ((e.Const value, mark) ∷ trees) ≡ in_front value mark (evaluate_all scene trees)
front_held scene value mark trees h =
    ap (λ found. follow_all (wanted mark found) (λ rest. (rest, mark) ∷ trees) (λ v. in_front v mark (evaluate_all scene trees))) (evaluate_const scene value)
    ∙ ap (λ found. follow_all found (λ rest. (rest, mark) ∷ trees) (λ v. in_front v mark (evaluate_all scene trees))) h

front : (scene : Scene) (mark : Bool) (front_values : List (Value × Bool)) (others : Trees) → IsSettled front_values → front_claim scene mark (λ x. held front_values ++ (x, mark) ∷ others)
front scene mark [] others s x =
    follow_all_twice mark (evaluate scene x) (λ rest. (rest, mark) ∷ others) (λ value. in_front value mark (evaluate_all scene others))
    ∙ follow_all_same (wanted mark (evaluate scene x)) (λ rest. (rest, mark) ∷ others) _ (λ value. evaluate_all scene ((e.Const value, mark) ∷ others))
    (λ value. ap (λ found. follow_all (wanted mark found) (λ rest. (rest, mark) ∷ others) (λ value. in_front value mark (evaluate_all scene others))) (sym (evaluate_const scene value)))
front scene mark (b ∷ front_values) others s x =
    front_held scene b.0 b.1 (held front_values ++ (x, mark) ∷ others) s.0
    ∙ ap (in_front b.0 b.1) (front scene mark front_values others s.1 x)
    ∙ in_front_follow b.0 b.1 (wanted mark (evaluate scene x)) (λ rest. held front_values ++ (rest, mark) ∷ others) (λ value. evaluate_all scene (held front_values ++ (e.Const value, mark) ∷ others))
    ∙ follow_all_same (wanted mark (evaluate scene x)) (λ rest. held (b ∷ front_values) ++ (rest, mark) ∷ others) _ (λ value. evaluate_all scene (held (b ∷ front_values) ++ (e.Const value, mark) ∷ others))
    (λ value. sym (front_held scene b.0 b.1 (held front_values ++ (e.Const value, mark) ∷ others) s.0))

-- a list turned around, in front of another
onto_claim : (scene : Scene) (mark : Bool) (below : List (Value × Bool)) (front_values : List (Value × Bool)) (others : Trees) → IsSettled below → IsSettled front_values
    → front_claim scene mark (λ x. onto (held below) (held front_values ++ (x, mark) ∷ others))
onto_claim scene mark [] front_values others s t = front scene mark front_values others t
onto_claim scene mark (b ∷ below) front_values others s t = onto_claim scene mark below (b ∷ front_values) others s.1 (s.0, t)

onto_append : (above below rest : Trees) → onto (above ++ below) rest ≡ onto below (onto above rest)
onto_append [] below rest = refl
onto_append (tree ∷ above) below rest = onto_append above below (tree ∷ rest)

turned : (above : Trees) (x : Expr) (mark : Bool) (below : List (Value × Bool)) → reverse (above ++ (x, mark) ∷ held below) ≡ onto (held below) ((x, mark) ∷ onto above [])
turned above x mark below = onto_append above ((x, mark) ∷ held below) []

claim_end : (scene : Scene) (above : Trees) (mark : Bool) (below : List (Value × Bool)) → IsSettled below → Claim scene [] mark (λ x. above ++ (x, mark) ∷ held below)
claim_end scene above mark below s x =
    ap (evaluate_all scene) (turned above x mark below)
    ∙ onto_claim scene mark below [] (onto above []) s tt x
    ∙ ap (λ d. follow_all (wanted mark (evaluate scene x)) d (λ value. evaluate_all scene (d (e.Const value)))) (λ j rest. sym (turned above rest mark below) j)

-- Before an instruction.

-- the claim for any trees above the expression and constants below it, before code
abbrev pub Goes : Scene → List Instr → Type 0
Goes scene code = (above : Trees) (m : Bool) (below : List (Value × Bool))
    → fits scene.body code (marks_of above ++ m ∷ held_marks below) ≡ true → IsSettled below → Claim scene code m (λ x. above ++ (x, m) ∷ held below)

goes_begin : (scene : Scene) (code : List Instr) (f : Form) → Goes scene code → Goes scene (i.Begin f ∷ code)
goes_begin scene code f goes [] false below h s = compose scene code false (begun f) false (λ x. (x, false) ∷ held below) (context_begin scene f) (goes [] false below h s)
goes_begin scene code f goes [] true below h s = absurd (false≢true h)
goes_begin scene code f goes ((t, false) ∷ above) m below h s = goes ((begun f t, false) ∷ above) m below h s
goes_begin scene code f goes ((t, true) ∷ above) m below h s = absurd (false≢true h)

goes_before : (scene : Scene) (code : List Instr) (oper : Oper) → Goes scene code → Goes scene (i.Prefix oper ∷ code)
goes_before scene code oper goes [] false below h s = compose scene code false (before oper) false (λ x. (x, false) ∷ held below) (context_before scene oper) (goes [] false below h s)
goes_before scene code oper goes [] true below h s = absurd (false≢true h)
goes_before scene code oper goes ((t, false) ∷ above) m below h s = goes ((before oper t, false) ∷ above) m below h s
goes_before scene code oper goes ((t, true) ∷ above) m below h s = absurd (false≢true h)

goes_group : (scene : Scene) (code : List Instr) → Goes scene code → Goes scene (i.Group ∷ code)
goes_group scene code goes [] false below h s = compose scene code false e.Group false (λ x. (x, false) ∷ held below) (context_group scene) (goes [] false below h s)
goes_group scene code goes [] true below h s = absurd (false≢true h)
goes_group scene code goes ((t, false) ∷ above) m below h s = goes ((e.Group t, false) ∷ above) m below h s
goes_group scene code goes ((t, true) ∷ above) m below h s = absurd (false≢true h)

goes_wanted : (scene : Scene) (code : List Instr) → Goes scene code → Goes scene (i.Wanted ∷ code)
goes_wanted scene code goes [] false below h s = compose scene code false (λ x. x) true (λ x. (x, true) ∷ held below) (context_wanted scene) (goes [] true below h s)
goes_wanted scene code goes [] true below h s = absurd (false≢true h)
goes_wanted scene code goes ((t, false) ∷ above) m below h s = goes ((t, true) ∷ above) m below h s
goes_wanted scene code goes ((t, true) ∷ above) m below h s = absurd (false≢true h)

pub if_both : (b c : Bool) → (if b then c else false) ≡ true → (b ≡ true) × (c ≡ true)
if_both true c h = (refl, h)
if_both false c h = absurd (false≢true h)

pub is_same_is : (a b : Bool) → is_same a b ≡ true → a ≡ b
is_same_is true b h = sym h
is_same_is false true h = absurd (false≢true h)
is_same_is false false h = refl

goes_oper : (scene : Scene) (code : List Instr) (oper : Oper) → Goes scene code → Goes scene (i.Oper oper ∷ code)
goes_oper scene code oper goes [] true below h s = absurd (false≢true h)
goes_oper scene code oper goes [] false [] h s = absurd (false≢true h)
goes_oper scene code oper goes [] false (l ∷ below) h s =
    let both = if_both (is_same l.1 (is_join oper)) (fits scene.body code (false ∷ held_marks below)) h in
    compose scene code false (λ x. behind (e.Const l.0) oper x) false (λ x. (x, false) ∷ held below)
    (context_right scene l.0 oper (subst (λ m. wanted m (Done l.0) ≡ Done l.0) (is_same_is l.1 (is_join oper) both.0) s.0))
    (goes [] false below both.1 s.1)
goes_oper scene code oper goes ((b, true) ∷ above) m below h s = absurd (false≢true h)
goes_oper scene code oper goes ((b, false) ∷ []) m below h s =
    let both = if_both (is_same m (is_join oper)) (fits scene.body code (false ∷ held_marks below)) h in
    compose scene code m (λ x. behind x oper b) false (λ x. (x, false) ∷ held below)
    (subst (λ j. IsContext scene j (λ x. behind x oper b) false) (sym (is_same_is m (is_join oper) both.0)) (context_left scene oper b))
    (goes [] false below both.1 s)
goes_oper scene code oper goes ((b, false) ∷ a ∷ above) m below h s =
    let both = if_both (is_same a.1 (is_join oper)) (fits scene.body code (false ∷ marks_of above ++ m ∷ held_marks below)) h in
    goes ((behind a.0 oper b, false) ∷ above) m below both.1 s

pub callee_is : (a b : Callee) → is_callee a b ≡ true → a ≡ b
callee_is callees.Label callees.Label h = refl
callee_is callees.Label callees.Builtin h = absurd (false≢true h)
callee_is callees.Label callees.Routine h = absurd (false≢true h)
callee_is callees.Builtin callees.Label h = absurd (false≢true h)
callee_is callees.Builtin callees.Builtin h = refl
callee_is callees.Builtin callees.Routine h = absurd (false≢true h)
callee_is callees.Routine callees.Label h = absurd (false≢true h)
callee_is callees.Routine callees.Builtin h = absurd (false≢true h)
callee_is callees.Routine callees.Routine h = refl

-- Arguments: the expression is one of them, or stands below them.

taking_held : (scene : Scene) (code : List Instr) (strings : Bool) (args : List (Option Expr)) (go : List (Option Expr) → Trees → Trees) (fit : List Bool → Bool)
    → ((values : List (Option Value)) (below : List (Value × Bool)) → AreSettled strings values → fit (held_marks below) ≡ true → IsSettled below → Claim scene code strings (λ x. go (constants values ++ Some x ∷ args) (held below)))
    → (shape : List Bool) (values : List (Option Value)) (below : List (Value × Bool)) → AreSettled strings values → takes strings shape (held_marks below) fit ≡ true → IsSettled below
    → Claim scene code strings (λ x. taking shape (held below) (constants values ++ Some x ∷ args) go)
taking_held scene code strings args go fit hyp [] values below t h s = hyp values below t h s
taking_held scene code strings args go fit hyp (false ∷ shape) values below t h s = taking_held scene code strings args go fit hyp shape (None ∷ values) below t h s
taking_held scene code strings args go fit hyp (true ∷ shape) values [] t h s = absurd (false≢true h)
taking_held scene code strings args go fit hyp (true ∷ shape) values (b ∷ below) t h s =
    let both = if_both (is_same b.1 strings) (takes strings shape (held_marks below) fit) h in
    taking_held scene code strings args go fit hyp shape (Some b.0 ∷ values) below
    (subst (λ m. wanted m (Done b.0) ≡ Done b.0) (is_same_is b.1 strings both.0) s.0, t) both.1 s.1

taking_above : (scene : Scene) (code : List Instr) (strings : Bool) (go : List (Option Expr) → Trees → Trees) (fit : List Bool → Bool) (m : Bool) (below : List (Value × Bool)) → IsSettled below
    → ((args : List (Option Expr)) (above : Trees) → fit (marks_of above ++ m ∷ held_marks below) ≡ true → Claim scene code m (λ x. go args (above ++ (x, m) ∷ held below)))
    → ((args : List (Option Expr)) (values : List (Option Value)) (below : List (Value × Bool)) → AreSettled strings values → fit (held_marks below) ≡ true → IsSettled below → Claim scene code strings (λ x. go (constants values ++ Some x ∷ args) (held below)))
    → (shape : List Bool) (above : Trees) (args : List (Option Expr)) → takes strings shape (marks_of above ++ m ∷ held_marks below) fit ≡ true
    → Claim scene code m (λ x. taking shape (above ++ (x, m) ∷ held below) args go)
taking_above scene code strings go fit m below s hyp hyp2 [] above args h = hyp args above h
taking_above scene code strings go fit m below s hyp hyp2 (false ∷ shape) above args h = taking_above scene code strings go fit m below s hyp hyp2 shape above (None ∷ args) h
taking_above scene code strings go fit m below s hyp hyp2 (true ∷ shape) [] args h =
    let both = if_both (is_same m strings) (takes strings shape (held_marks below) fit) h in
    subst (λ k. Claim scene code k (λ x. taking shape (held below) (Some x ∷ args) go)) (sym (is_same_is m strings both.0))
    (taking_held scene code strings args go fit (hyp2 args) shape [] below tt both.1 s)
taking_above scene code strings go fit m below s hyp hyp2 (true ∷ shape) (t ∷ above) args h =
    let both = if_both (is_same t.1 strings) (takes strings shape (marks_of above ++ m ∷ held_marks below) fit) h in
    taking_above scene code strings go fit m below s hyp hyp2 shape above (Some t.0 ∷ args) both.1

context_called : (scene : Scene) (call : Calling) (values : List (Option Value)) (args : List (Option Expr))
    → call.callee ≡ callee scene.body call.name call.is_string → AreSettled (wants_strings call.callee) values
    → IsContext scene (wants_strings call.callee) (λ x. e.Function call.name call.is_string (constants values ++ Some x ∷ args)) false
context_called scene call values args is t =
    subst (λ c. AreSettled (wants_strings c) values → IsContext scene (wants_strings c) (λ x. e.Function call.name call.is_string (constants values ++ Some x ∷ args)) false) (sym is)
    (context_function scene call.name call.is_string values args) t

goes_function : (scene : Scene) (code : List Instr) (call : Calling) → Goes scene code → Goes scene (i.Function call ∷ code)
goes_function scene code call goes above m below h s =
    let both = if_both (knows_call scene.body call) (takes (wants_strings call.callee) call.shape (marks_of above ++ m ∷ held_marks below) (λ rest. fits scene.body code (false ∷ rest))) h in
    taking_above scene code (wants_strings call.callee) (with_function call) (λ rest. fits scene.body code (false ∷ rest)) m below s
    (λ args above h. goes ((e.Function call.name call.is_string args, false) ∷ above) m below h s)
    (λ args values below t h s. compose scene code (wants_strings call.callee) (λ x. e.Function call.name call.is_string (constants values ++ Some x ∷ args)) false (λ x. (x, false) ∷ held below)
    (context_called scene call values args (callee_is call.callee (callee scene.body call.name call.is_string) both.0) t) (goes [] false below h s))
    call.shape above [] both.1

send_above : (scene : Scene) (code : List Instr) (send : Sending) → Goes scene code
    → (m : Bool) (below : List (Value × Bool)) → IsSettled below → (args : List (Option Expr)) (above : Trees)
    → receives (fits scene.body code) (marks_of above ++ m ∷ held_marks below) ≡ true → Claim scene code m (λ x. with_send send args (above ++ (x, m) ∷ held below))
send_above scene code send goes true below s args [] h = absurd (false≢true h)
send_above scene code send goes false below s args [] h =
    compose scene code false (λ x. sending x (part_of send args)) false (λ x. (x, false) ∷ held below) (context_receiver scene (part_of send args)) (goes [] false below h s)
send_above scene code send goes m below s args ((t, true) ∷ above) h = absurd (false≢true h)
send_above scene code send goes m below s args ((t, false) ∷ above) h = goes ((sending t (part_of send args), false) ∷ above) m below h s

send_held : (scene : Scene) (code : List Instr) (send : Sending) → Goes scene code
    → (args : List (Option Expr)) (values : List (Option Value)) (below : List (Value × Bool)) → AreSettled false values → receives (fits scene.body code) (held_marks below) ≡ true → IsSettled below
    → Claim scene code false (λ x. with_send send (constants values ++ Some x ∷ args) (held below))
send_held scene code send goes args values [] u h s = absurd (false≢true h)
send_held scene code send goes args values ((t, true) ∷ below) u h s = absurd (false≢true h)
send_held scene code send goes args values ((t, false) ∷ below) u h s =
    compose scene code false (λ x. sending (e.Const t) (part_of send (constants values ++ Some x ∷ args))) false (λ x. (x, false) ∷ held below)
    (context_send scene t send values args) (goes [] false below h s.1)

goes_send : (scene : Scene) (code : List Instr) (send : Sending) → Goes scene code → Goes scene (i.Send send ∷ code)
goes_send scene code send goes above m below h s =
    let both = if_both (knows_send scene.body send) (takes false send.shape (marks_of above ++ m ∷ held_marks below) (receives (fits scene.body code))) h in
    taking_above scene code false (with_send send) (receives (fits scene.body code)) m below s
    (send_above scene code send goes m below s) (send_held scene code send goes) send.shape above [] both.1

pub first_of : (scene : Scene) (code : List Instr) → Goes scene code
first_of scene [] above m below h s = claim_end scene above m below s
first_of scene (i.Const value ∷ code) above m below h s = first_of scene code ((e.Const value, false) ∷ above) m below h s
first_of scene (i.Name name ∷ code) above m below h s = first_of scene code ((e.Name name, false) ∷ above) m below h s
first_of scene (i.Environment name object ∷ code) above m below h s =
    let both = if_both (is_object object (object_named scene.body name)) (fits scene.body code (false ∷ marks_of above ++ m ∷ held_marks below)) h in
    first_of scene code ((e.Environment name, false) ∷ above) m below both.1 s
first_of scene (i.Begin f ∷ code) above m below h s = goes_begin scene code f (first_of scene code) above m below h s
first_of scene (i.Oper oper ∷ code) above m below h s = goes_oper scene code oper (first_of scene code) above m below h s
first_of scene (i.Prefix oper ∷ code) above m below h s = goes_before scene code oper (first_of scene code) above m below h s
first_of scene (i.Group ∷ code) above m below h s = goes_group scene code (first_of scene code) above m below h s
first_of scene (i.Function call ∷ code) above m below h s = goes_function scene code call (first_of scene code) above m below h s
first_of scene (i.Send send ∷ code) above m below h s = goes_send scene code send (first_of scene code) above m below h s
first_of scene (i.Wanted ∷ code) above m below h s = goes_wanted scene code (first_of scene code) above m below h s
