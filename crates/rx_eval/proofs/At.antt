-- The same at a place in code.
use Rattle.std.proofs.Common.{◌≡◌, ℕ, suc, ◌+◌, ◌<◌, ◌≤◌, Bool, true, false, if◌then◌else◌, List, [], ◌∷◌, ◌++◌, map, reverse, take, drop, get_or, length, slice_get, Option, Some, None, refl, ap, sym, ◌∙◌, subst, add-one, take-append-drop}
use Rattle.std.proofs.lemmas.Bool.{false≢true}
use Rattle.std.proofs.lemmas.List.{drop_all}
use Rattle.std.proofs.lemmas.Option.{slice_get_within, get_or_from_slice_get}
use Rattle.std.proofs.Math.Seq.{drop-cons, take-suc}
use Rattle.rx_tree.specs.declared.value.Value.{Value}
use Rattle.rx_tree.specs.declared.expr.Expr.{Expr}
use Rattle.rx_tree.specs.declared.expr.Expr.TheVariants as e
use Rattle.rx_eval.specs.declared.code.Instr.{Instr}
use Rattle.rx_eval.specs.declared.code.Instr.TheVariants as i
use Rattle.rx_operators.specs.Families.{is_join}
use Rattle.rx_eval.specs.declared.call.Pending.{Pending}
use Rattle.rx_eval.specs.declared.code.Sending.{Sending}
use Rattle.rx_eval.specs.Bodies.{Body}
use Rattle.rx_eval.specs.Calling.{wants_strings}
use Rattle.rx_eval.specs.Reading.{Scene, object_named}
use Rattle.rx_eval.specs.Evaluation.{Done, wanted, AllFound, AllDone, AllRaise, AllNoValue, AllCall, evaluate_all}
use Rattle.rx_eval.specs.Machine.{Moved, Next, Raises, Lacks, Calls, Stuck, is_kept, move}
use Rattle.rx_eval.specs.Places.{Trees, taking, with_function, with_send, made, made_by, takes, receives, is_same, is_object, knows_call, knows_send, runs, fits, marks_of, replaced, rest_at, partial, Settles, IsPlace, trees_of, with_hole, with_answer}
use Rattle.rx_eval.proofs.First.{held, held_marks, IsSettled, if_both}
use Rattle.rx_eval.proofs.Steps.{values_of, holed, holed_marks, held_marks_are, IsMoved, steps, ended, all_of}

-- code in two parts

pub made_by_append : (first second : List Instr) (trees : Trees) → made_by (first ++ second) trees ≡ made_by second (made_by first trees)
made_by_append [] second trees = refl
made_by_append (instr ∷ first) second trees = made_by_append first second (made instr trees)

pub cut : {X : Type 0} (code : List X) (at : ℕ) (instr : X) → slice_get code at ≡ Some instr → (drop at code ≡ instr ∷ drop (at + 1) code) × (take (at + 1) code ≡ take at code ++ instr ∷ [])
cut code at instr h =
    let within : at < length code = slice_get_within code at instr h in
    let is : get_or code at instr ≡ instr = get_or_from_slice_get code at instr instr h in (
      rw add-one (drop-cons code at instr within ∙ ap (λ x. x ∷ drop (suc at) code) is),
      rw add-one (take-suc code at instr within ∙ ap (λ x. take at code ++ x ∷ []) is),
    )

-- The marks that an instruction leaves follow from those before it.

abbrev pub dropping : List Bool → List Bool → (List Bool → List Bool) → List Bool
dropping [] marks go = go marks
dropping (false ∷ shape) marks go = dropping shape marks go
dropping (true ∷ shape) [] go = []
dropping (true ∷ shape) (mark ∷ marks) go = dropping shape marks go

abbrev pub receiving : List Bool → List Bool
receiving [] = []
receiving (mark ∷ marks) = false ∷ marks

abbrev pub marks_after : Instr → List Bool → List Bool
marks_after (i.Const value) marks = false ∷ marks
marks_after (i.Name name) marks = false ∷ marks
marks_after (i.Environment name object) marks = false ∷ marks
marks_after (i.Begin form) (mark ∷ marks) = false ∷ marks
marks_after (i.Oper oper) (right ∷ left ∷ marks) = false ∷ marks
marks_after (i.Prefix oper) (mark ∷ marks) = false ∷ marks
marks_after i.Group (mark ∷ marks) = false ∷ marks
marks_after (i.Function call) marks = dropping call.shape marks (λ rest. false ∷ rest)
marks_after (i.Send send) marks = dropping send.shape marks receiving
marks_after i.Wanted (mark ∷ marks) = true ∷ marks
marks_after _ marks = marks

dropping_is : (go : List (Option Expr) → Trees → Trees) (go_on : List Bool → List Bool) → ((args : List (Option Expr)) (trees : Trees) → marks_of (go args trees) ≡ go_on (marks_of trees))
    → (shape : List Bool) (trees : Trees) (args : List (Option Expr)) → marks_of (taking shape trees args go) ≡ dropping shape (marks_of trees) go_on
dropping_is go go_on h [] trees args = h args trees
dropping_is go go_on h (false ∷ shape) trees args = dropping_is go go_on h shape trees (None ∷ args)
dropping_is go go_on h (true ∷ shape) [] args = refl
dropping_is go go_on h (true ∷ shape) (tree ∷ trees) args = dropping_is go go_on h shape trees (Some tree.0 ∷ args)

send_is : (send : Sending) (args : List (Option Expr)) (trees : Trees) → marks_of (with_send send args trees) ≡ receiving (marks_of trees)
send_is send args [] = refl
send_is send args (tree ∷ trees) = refl

pub marks_made : (instr : Instr) (trees : Trees) → marks_of (made instr trees) ≡ marks_after instr (marks_of trees)
marks_made (i.Const value) trees = refl
marks_made (i.Name name) trees = refl
marks_made (i.Environment name object) trees = refl
marks_made (i.Begin form) [] = refl
marks_made (i.Begin form) (tree ∷ trees) = refl
marks_made (i.Oper oper) [] = refl
marks_made (i.Oper oper) (right ∷ []) = refl
marks_made (i.Oper oper) (right ∷ left ∷ trees) = refl
marks_made (i.Prefix oper) [] = refl
marks_made (i.Prefix oper) (tree ∷ trees) = refl
marks_made i.Group [] = refl
marks_made i.Group (tree ∷ trees) = refl
marks_made (i.Function call) trees = dropping_is (with_function call) (λ rest. false ∷ rest) (λ args rest. refl) call.shape trees []
marks_made (i.Send send) trees = dropping_is (with_send send) receiving (send_is send) send.shape trees []
marks_made i.Wanted [] = refl
marks_made i.Wanted (tree ∷ trees) = refl

takes_go : (strings : Bool) (shape marks : List Bool) (fit : List Bool → Bool) (go : List Bool → List Bool) (fit_on : List Bool → Bool) → ((rest : List Bool) → fit rest ≡ true → fit_on (go rest) ≡ true)
    → takes strings shape marks fit ≡ true → fit_on (dropping shape marks go) ≡ true
takes_go strings [] marks fit go fit_on g h = g marks h
takes_go strings (false ∷ shape) marks fit go fit_on g h = takes_go strings shape marks fit go fit_on g h
takes_go strings (true ∷ shape) [] fit go fit_on g h = absurd (false≢true h)
takes_go strings (true ∷ shape) (mark ∷ marks) fit go fit_on g h =
    takes_go strings shape marks fit go fit_on g (if_both (is_same mark strings) (takes strings shape marks fit) h).1

receives_go : (go : List Bool → Bool) (marks : List Bool) → receives go marks ≡ true → go (receiving marks) ≡ true
receives_go go [] h = absurd (false≢true h)
receives_go go (true ∷ marks) h = absurd (false≢true h)
receives_go go (false ∷ marks) h = h

pub runs_go : (body : Body) (instr : Instr) (marks : List Bool) (go : List Bool → Bool) → runs body instr marks go ≡ true → go (marks_after instr marks) ≡ true
runs_go body (i.Const value) marks go h = h
runs_go body (i.Name name) marks go h = h
runs_go body (i.Environment name object) marks go h = (if_both (is_object object (object_named body name)) (go (false ∷ marks)) h).1
runs_go body (i.Begin form) [] go h = absurd (false≢true h)
runs_go body (i.Begin form) (true ∷ marks) go h = absurd (false≢true h)
runs_go body (i.Begin form) (false ∷ marks) go h = h
runs_go body (i.Oper oper) [] go h = absurd (false≢true h)
runs_go body (i.Oper oper) (true ∷ marks) go h = absurd (false≢true h)
runs_go body (i.Oper oper) (false ∷ []) go h = absurd (false≢true h)
runs_go body (i.Oper oper) (false ∷ left ∷ marks) go h = (if_both (is_same left (is_join oper)) (go (false ∷ marks)) h).1
runs_go body (i.Prefix oper) [] go h = absurd (false≢true h)
runs_go body (i.Prefix oper) (true ∷ marks) go h = absurd (false≢true h)
runs_go body (i.Prefix oper) (false ∷ marks) go h = h
runs_go body i.Group [] go h = absurd (false≢true h)
runs_go body i.Group (true ∷ marks) go h = absurd (false≢true h)
runs_go body i.Group (false ∷ marks) go h = h
runs_go body (i.Function call) marks go h =
    takes_go (wants_strings call.callee) call.shape marks (λ rest. go (false ∷ rest)) (λ rest. false ∷ rest) go (λ rest p. p)
    (if_both (knows_call body call) (takes (wants_strings call.callee) call.shape marks (λ rest. go (false ∷ rest))) h).1
runs_go body (i.Send send) marks go h =
    takes_go false send.shape marks (receives go) receiving go (λ rest p. receives_go go rest p)
    (if_both (knows_send body send) (takes false send.shape marks (receives go)) h).1
runs_go body i.Wanted [] go h = absurd (false≢true h)
runs_go body i.Wanted (true ∷ marks) go h = absurd (false≢true h)
runs_go body i.Wanted (false ∷ marks) go h = h

pub fits_rest : (body : Body) (first second : List Instr) (trees : Trees) → fits body (first ++ second) (marks_of trees) ≡ true → fits body second (marks_of (made_by first trees)) ≡ true
fits_rest body [] second trees h = h
fits_rest body (instr ∷ first) second trees h =
    fits_rest body first second (made instr trees) (subst (λ marks. fits body (first ++ second) marks ≡ true) (sym (marks_made instr trees)) (runs_go body instr (marks_of trees) (fits body (first ++ second)) h))

pub fits_at : (body : Body) (code : List Instr) (at : ℕ) → fits body code [] ≡ true → fits body (drop at code) (marks_of (made_by (take at code) [])) ≡ true
fits_at body code at h = fits_rest body (take at code) (drop at code) [] (subst (λ all. fits body all [] ≡ true) (sym (take-append-drop at code)) h)

-- Values at a place, each with its mark.

abbrev paired : Trees → List Value → List (Value × Bool)
paired [] values = []
paired (tree ∷ trees) [] = []
paired (tree ∷ trees) (value ∷ values) = (value, tree.1) ∷ paired trees values

record Pairs (trees : Trees) (values : List Value) (below : List (Value × Bool)) : Type 0 where
  values_are : values_of below ≡ values
  marks_are : held_marks below ≡ marks_of trees
  held_are : held below ≡ replaced trees (map e.Const values)
  settled : IsSettled below

pairs : (trees : Trees) (values : List Value) → Settles trees values → Pairs trees values (paired trees values)
pairs [] [] h = record { values_are = refl; marks_are = refl; held_are = refl; settled = tt }
pairs [] (value ∷ values) h = absurd h
pairs (tree ∷ trees) [] h = absurd h
pairs (tree ∷ trees) (value ∷ values) h =
    let p = pairs trees values h.1 in
    record {
      values_are = ap (λ rest. value ∷ rest) p.values_are;
      marks_are = ap (λ rest. tree.1 ∷ rest) p.marks_are;
      held_are = ap (λ rest. (e.Const value, tree.1) ∷ rest) p.held_are;
      settled = (h.0, p.settled);
    }

-- and the other way
back_replaced : (trees : Trees) (below : List (Value × Bool)) → held_marks below ≡ marks_of trees → replaced trees (map e.Const (values_of below)) ≡ held below
back_replaced [] [] h = refl
back_replaced [] (x ∷ below) h = absurd (cc)
back_replaced (tree ∷ trees) [] h = absurd (cc)
back_replaced (tree ∷ trees) (x ∷ below) h =
    let p : x.1 ≡ tree.1 = cc in
    let q : held_marks below ≡ marks_of trees = cc in
    rw (back_replaced trees below q) (ap (λ mark. (e.Const x.0, mark) ∷ held below) (sym p))

back_settles : (trees : Trees) (below : List (Value × Bool)) → held_marks below ≡ marks_of trees → IsSettled below → Settles trees (values_of below)
back_settles [] [] h s = tt
back_settles [] (x ∷ below) h s = absurd (cc)
back_settles (tree ∷ trees) [] h s = absurd (cc)
back_settles (tree ∷ trees) (x ∷ below) h s =
    let p : x.1 ≡ tree.1 = cc in
    let q : held_marks below ≡ marks_of trees = cc in
    (subst (λ mark. wanted mark (Done x.0) ≡ Done x.0) p s.0, back_settles trees below q s.1)

back_holed : (trees : Trees) (awaits : Bool) (below : List (Value × Bool)) → holed_marks awaits below ≡ marks_of trees → replaced trees (with_hole awaits (values_of below)) ≡ holed awaits below
back_holed trees false below h = back_replaced trees below h
back_holed [] true below h = absurd (cc)
back_holed (tree ∷ trees) true below h =
    let p : false ≡ tree.1 = cc in
    let q : held_marks below ≡ marks_of trees = cc in
    rw (back_replaced trees below q) (ap (λ mark. (e.Hole, mark) ∷ held below) (sym p))

back_answered : (trees : Trees) (awaits : Bool) (answer : Value) (below : List (Value × Bool)) → holed_marks awaits below ≡ marks_of trees → IsSettled below → Settles trees (with_answer awaits answer (values_of below))
back_answered trees false answer below h s = back_settles trees below h s
back_answered [] true answer below h s = absurd (cc)
back_answered (tree ∷ trees) true answer below h s =
    let p : false ≡ tree.1 = cc in
    let q : held_marks below ≡ marks_of trees = cc in
    (subst (λ mark. wanted mark (Done answer) ≡ Done answer) p refl, back_settles trees below q s)

-- What an instruction at a place did, and what all comes to.
abbrev pub IsStepped : Scene → List Instr → ℕ → AllFound → Moved → Type 0
IsStepped scene code at all (Next values) = IsPlace code (at + 1) values × (all ≡ evaluate_all scene (partial code (at + 1) values))
IsStepped scene code at all (Raises number) = all ≡ AllRaise number
IsStepped scene code at all (Lacks name) = all ≡ AllNoValue name
IsStepped scene code at all (Calls sent again values) =
    ((answer : Value) → IsPlace code (if again then at else at + 1) (with_answer (is_kept sent.awaited) answer values))
    × (all ≡ AllCall sent (rest_at code (if again then at else at + 1) (with_hole (is_kept sent.awaited) values)))
IsStepped scene code at all Stuck = ⊥

called_at : (code : List Instr) (place : ℕ) (rest : List Instr) (sent : Pending) (awaits : Bool) (below : List (Value × Bool)) (values : List Value) (all : AllFound)
    → drop place code ≡ rest → holed_marks awaits below ≡ marks_of (made_by (take place code) []) → values_of below ≡ values → IsSettled below → all ≡ AllCall sent (reverse (made_by rest (holed awaits below)))
    → ((answer : Value) → IsPlace code place (with_answer awaits answer values)) × (all ≡ AllCall sent (rest_at code place (with_hole awaits values)))
called_at code place rest sent awaits below values all d m v s a = (
  (λ answer. subst (λ vs. IsPlace code place (with_answer awaits answer vs)) v (back_answered (made_by (take place code) []) awaits answer below m s)),
  a ∙ ap (λ c. AllCall sent (reverse (made_by c (holed awaits below)))) (sym d)
      ∙ ap (λ t. AllCall sent (reverse (made_by (drop place code) t))) (sym (back_holed (made_by (take place code) []) awaits below m))
      ∙ ap (λ vs. AllCall sent (rest_at code place (with_hole awaits vs))) v,
)

next_at : (scene : Scene) (code : List Instr) (place : ℕ) (below : List (Value × Bool)) (values : List Value) (all : AllFound)
    → held_marks below ≡ marks_of (made_by (take place code) []) → values_of below ≡ values → IsSettled below → all ≡ all_of scene (drop place code) (held below)
    → IsPlace code place values × (all ≡ evaluate_all scene (partial code place values))
next_at scene code place below values all m v s a = (
  subst (IsPlace code place) v (back_settles (made_by (take place code) []) below m s),
  a ∙ ap (λ t. evaluate_all scene (reverse (made_by (drop place code) t))) (sym (back_replaced (made_by (take place code) []) below m))
      ∙ ap (λ vs. evaluate_all scene (partial code place vs)) v,
)

placed : (scene : Scene) (code : List Instr) (at : ℕ) (instr : Instr) (marks : List Bool) (trees : Trees) (all : AllFound)
    → drop at code ≡ instr ∷ drop (at + 1) code → marks ≡ marks_of (made_by (take at code) []) → marks_of trees ≡ marks_of (made_by (take (at + 1) code) [])
    → (moved : Moved) → IsMoved scene instr (drop (at + 1) code) marks trees all moved → IsStepped scene code at all moved
placed scene code at instr marks trees all d m n (Next values) h = next_at scene code (at + 1) h.0 values all (h.3 ∙ n) h.1 h.2 h.4
placed scene code at instr marks trees all d m n (Raises number) h = h
placed scene code at instr marks trees all d m n (Lacks name) h = h
placed scene code at instr marks trees all d m n (Calls sent true values) h = called_at code at (instr ∷ drop (at + 1) code) sent (is_kept sent.awaited) h.0 values all d (h.3 ∙ m) h.1 h.2 h.4
placed scene code at instr marks trees all d m n (Calls sent false values) h = called_at code (at + 1) (drop (at + 1) code) sent (is_kept sent.awaited) h.0 values all refl (h.3 ∙ n) h.1 h.2 h.4
placed scene code at instr marks trees all d m n Stuck h = h

pub stepped : (scene : Scene) (code : List Instr) (at : ℕ) (instr : Instr) (values : List Value)
    → fits scene.body code [] ≡ true → slice_get code at ≡ Some instr → IsPlace code at values → IsStepped scene code at (evaluate_all scene (partial code at values)) (move scene.facts instr values)
stepped scene code at instr values h get place =
    let trees = made_by (take at code) [] in
    let below = paired trees values in
    let p = pairs trees values place in
    let c = cut code at instr get in
    let rest = drop (at + 1) code in
    let fit : fits scene.body (instr ∷ rest) (held_marks below) ≡ true =
    subst (λ marks. fits scene.body (instr ∷ rest) marks ≡ true) (sym p.marks_are) (subst (λ all. fits scene.body all (marks_of trees) ≡ true) c.0 (fits_at scene.body code at h)) in
    let after : marks_of (made instr (held below)) ≡ marks_of (made_by (take (at + 1) code) []) =
    marks_made instr (held below) ∙ ap (marks_after instr) (sym (held_marks_are below) ∙ p.marks_are) ∙ sym (marks_made instr trees)
    ∙ ap marks_of (sym (made_by_append (take at code) (instr ∷ []) [])) ∙ ap (λ all. marks_of (made_by all [])) (sym c.1) in
    let same : all_of scene (instr ∷ rest) (held below) ≡ evaluate_all scene (partial code at values) =
    ap (λ all. all_of scene all (held below)) (sym c.0) ∙ ap (all_of scene (drop at code)) p.held_are in
    let done : IsMoved scene instr rest (held_marks below) (made instr (held below)) (all_of scene (instr ∷ rest) (held below)) (move scene.facts instr (values_of below)) =
    steps scene instr rest below fit p.settled in
    placed scene code at instr (held_marks below) (made instr (held below)) (evaluate_all scene (partial code at values)) c.0 p.marks_are after (move scene.facts instr values)
    (subst (λ all. IsMoved scene instr rest (held_marks below) (made instr (held below)) all (move scene.facts instr values)) same
    (subst (λ vs. IsMoved scene instr rest (held_marks below) (made instr (held below)) (all_of scene (instr ∷ rest) (held below)) (move scene.facts instr vs)) p.values_are done))

-- at the end of the code
pub ended_at : (scene : Scene) (code : List Instr) (at : ℕ) (values : List Value) → length code ≤ at → IsPlace code at values
    → evaluate_all scene (partial code at values) ≡ AllDone (reverse values)
ended_at scene code at values h place =
    let trees = made_by (take at code) [] in
    let below = paired trees values in
    let p = pairs trees values place in
    ap (λ c. evaluate_all scene (reverse (made_by c (replaced trees (map e.Const values))))) (drop_all at code h)
    ∙ ap (λ t. evaluate_all scene (reverse t)) (sym p.held_are)
    ∙ ended scene below [] [] p.settled refl
    ∙ ap (λ vs. AllDone (reverse vs)) p.values_are

-- at the beginning of the code
pub begins : (code : List Instr) → (IsPlace code 0 []) × (partial code 0 [] ≡ trees_of code)
begins code = (tt, refl)
