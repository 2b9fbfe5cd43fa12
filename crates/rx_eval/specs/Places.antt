-- The trees that postfix code stands for.
use Rattle.std.specs.Prelude.{◌≡◌, ℕ, ◌==◌, ◌&&◌, Bool, true, false, if◌then◌else◌, List, [], ◌∷◌, map, take, drop, reverse, Option, Some, None}
use Rattle.std.specs.Str.{bytes_eq}
use Rattle.rx_operators.specs.Families.{is_join}
use Rattle.rx_tree.specs.declared.expr.Expr.{Expr}
use Rattle.rx_tree.specs.declared.expr.Expr.TheVariants as e
use Rattle.rx_tree.specs.declared.expr.SendPart.{SendPart}
use Rattle.rx_tree.specs.declared.value.Value.{Value}
use Rattle.rx_eval.specs.declared.code.Callee.{Callee}
use Rattle.rx_eval.specs.declared.code.Callee.TheVariants as callees
use Rattle.rx_eval.specs.declared.code.Class.{Class}
use Rattle.rx_eval.specs.declared.code.Form.{Form}
use Rattle.rx_eval.specs.declared.code.Form.TheVariants as form
use Rattle.rx_eval.specs.declared.code.Calling.{Calling}
use Rattle.rx_eval.specs.declared.code.Sending.{Sending}
use Rattle.rx_eval.specs.declared.code.Instr.{Instr}
use Rattle.rx_eval.specs.declared.code.Instr.TheVariants as i
use Rattle.rx_eval.specs.Bodies.{Body}
use Rattle.rx_eval.specs.Calling.{callee, message_of, wants_strings}
use Rattle.rx_eval.specs.Evaluation.{Done, wanted, behind, before, sending}
use Rattle.rx_eval.specs.Reading.{object_named}

-- Trees, the last one first, each with whether a string is wanted of it.
abbrev pub Trees : Type 0
Trees = List (Expr × Bool)

-- ---- the tree that an instruction makes of the trees before it

-- The last trees become arguments, where the shape says that one is given. The shape tells of the last argument first.
abbrev pub taking : List Bool → Trees → List (Option Expr) → (List (Option Expr) → Trees → Trees) → Trees
taking [] trees args go = go args trees
taking (false ∷ shape) trees args go = taking shape trees (None ∷ args) go
taking (true ∷ shape) [] args go = []
taking (true ∷ shape) (tree ∷ trees) args go = taking shape trees (Some tree.0 ∷ args) go

abbrev pub with_function : Calling → List (Option Expr) → Trees → Trees
with_function call args trees = (e.Function call.name call.is_string args, false) ∷ trees

abbrev pub class_name : Option Class → Option (List ℕ)
class_name None = None
class_name (Some class) = Some class.name

-- the message of an instruction, with its arguments
abbrev pub part_of : Sending → List (Option Expr) → SendPart
part_of send args =
    record { name = send.name; above = class_name send.class; args = args; back = send.back; bracket = send.bracket }

abbrev pub with_send : Sending → List (Option Expr) → Trees → Trees
with_send send args [] = []
with_send send args (tree ∷ trees) = (sending tree.0 (part_of send args), false) ∷ trees

abbrev pub begun : Form → Expr → Expr
begun form.Prefix tree = e.Prefix [] tree
begun form.Chain tree = e.Chain tree []
begun form.Sends tree = e.Sends tree []

abbrev pub made : Instr → Trees → Trees
made (i.Const value) trees = (e.Const value, false) ∷ trees
made (i.Name name) trees = (e.Name name, false) ∷ trees
made (i.Environment name object) trees = (e.Environment name, false) ∷ trees
made (i.Begin form) (tree ∷ trees) = (begun form tree.0, false) ∷ trees
made (i.Oper oper) (right ∷ left ∷ trees) = (behind left.0 oper right.0, false) ∷ trees
made (i.Prefix oper) (tree ∷ trees) = (before oper tree.0, false) ∷ trees
made i.Group (tree ∷ trees) = (e.Group tree.0, false) ∷ trees
made (i.Function call) trees = taking call.shape trees [] (with_function call)
made (i.Send send) trees = taking send.shape trees [] (with_send send)
made i.Wanted (tree ∷ trees) = (tree.0, true) ∷ trees
made _ trees = trees

abbrev pub made_by : List Instr → Trees → Trees
made_by [] trees = trees
made_by (instr ∷ code) trees = made_by code (made instr trees)

-- the trees of whole code, in their order
abbrev pub trees_of : List Instr → Trees
trees_of code = reverse (made_by code [])

-- ---- whether each instruction finds what it needs

abbrev pub is_same : Bool → Bool → Bool
is_same true b = b
is_same false true = false
is_same false false = true

-- what was looked up for it in the body

abbrev pub is_object : Option ℕ → Option ℕ → Bool
is_object None None = true
is_object None (Some n) = false
is_object (Some m) None = false
is_object (Some m) (Some n) = m == n

abbrev pub is_callee : Callee → Callee → Bool
is_callee callees.Label callees.Label = true
is_callee callees.Builtin callees.Builtin = true
is_callee callees.Routine callees.Routine = true
is_callee _ _ = false

abbrev pub knows_class : Body → Option Class → Bool
knows_class body None = true
knows_class body (Some class) = is_object class.object (object_named body class.name)

abbrev pub knows_send : Body → Sending → Bool
knows_send body send = bytes_eq send.message (message_of send.name send.bracket) && knows_class body send.class

abbrev pub knows_call : Body → Calling → Bool
knows_call body call = is_callee call.callee (callee body call.name call.is_string)

-- trees: of which no string is wanted, but for the left one of a join and the arguments of a built-in function

abbrev pub takes : Bool → List Bool → List Bool → (List Bool → Bool) → Bool
takes strings [] marks go = go marks
takes strings (false ∷ shape) marks go = takes strings shape marks go
takes strings (true ∷ shape) [] go = false
takes strings (true ∷ shape) (mark ∷ marks) go = if is_same mark strings then takes strings shape marks go else false

abbrev pub receives : (List Bool → Bool) → List Bool → Bool
receives go (false ∷ marks) = go (false ∷ marks)
receives go _ = false

abbrev pub runs : Body → Instr → List Bool → (List Bool → Bool) → Bool
runs body (i.Const value) marks go = go (false ∷ marks)
runs body (i.Name name) marks go = go (false ∷ marks)
runs body (i.Environment name object) marks go = if is_object object (object_named body name) then go (false ∷ marks) else false
runs body (i.Begin form) (false ∷ marks) go = go (false ∷ marks)
runs body (i.Oper oper) (false ∷ left ∷ marks) go = if is_same left (is_join oper) then go (false ∷ marks) else false
runs body (i.Prefix oper) (false ∷ marks) go = go (false ∷ marks)
runs body i.Group (false ∷ marks) go = go (false ∷ marks)
runs body (i.Function call) marks go =
    if knows_call body call then takes (wants_strings call.callee) call.shape marks (λ rest. go (false ∷ rest)) else false
runs body (i.Send send) marks go = if knows_send body send then takes false send.shape marks (receives go) else false
runs body i.Wanted (false ∷ marks) go = go (true ∷ marks)
runs body _ _ go = false

abbrev pub fits : Body → List Instr → List Bool → Bool
fits body [] marks = true
fits body (instr ∷ code) marks = runs body instr marks (fits body code)

abbrev pub marks_of : Trees → List Bool
marks_of trees = map (λ tree. tree.1) trees

-- ---- places in code

-- Other trees in place of those that stand at a place.
abbrev pub replaced : Trees → List Expr → Trees
replaced [] exprs = []
replaced (tree ∷ trees) [] = []
replaced (tree ∷ trees) (expr ∷ exprs) = (expr, tree.1) ∷ replaced trees exprs

abbrev pub standing : List Instr → ℕ → List Expr → Trees
standing code place exprs = replaced (made_by (take place code) []) exprs

-- The trees that a place in code stands for, where these expressions stand there, the last one first.
abbrev pub rest_at : List Instr → ℕ → List Expr → Trees
rest_at code place exprs = reverse (made_by (drop place code) (standing code place exprs))

abbrev pub partial : List Instr → ℕ → List Value → Trees
partial code place values = rest_at code place (map e.Const values)

-- As many values as trees stand at a place, and strings where a string was wanted.
abbrev pub Settles : Trees → List Value → Type 0
Settles [] [] = Unit {0}
Settles (tree ∷ trees) (value ∷ values) = (wanted tree.1 (Done value) ≡ Done value) × Settles trees values
Settles _ _ = ⊥

abbrev pub IsPlace : List Instr → ℕ → List Value → Type 0
IsPlace code place values = Settles (made_by (take place code) []) values

-- What stands at the place behind a call: a hole for the answer, if it becomes a value; and then the answer in its place.
abbrev pub with_hole : Bool → List Value → List Expr
with_hole true values = e.Hole ∷ map e.Const values
with_hole false values = map e.Const values

abbrev pub with_answer : Bool → Value → List Value → List Value
with_answer true answer values = answer ∷ values
with_answer false answer values = values
