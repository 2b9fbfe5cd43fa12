-- What expressions come to.
use Rattle.std.specs.Prelude.{ℕ, Bool, true, false, List, [], ◌∷◌, ◌++◌, Option, Some, None, Result, Ok, Err}
use Rattle.rx_operators.specs.Families.{is_join}
use Rattle.rx_operators.specs.Operators.{value, prefix_value}
use Rattle.rx_tree.specs.declared.token.Oper.{Oper}
use Rattle.rx_tree.specs.declared.expr.Expr.{Expr}
use Rattle.rx_tree.specs.declared.expr.Expr.TheVariants as e
use Rattle.rx_tree.specs.declared.expr.Expr.TheOpen.{Expr-F}
use Rattle.rx_tree.specs.declared.expr.Expr.TheViews.{out-Expr}
use Rattle.rx_tree.specs.declared.expr.Expr.TheFolds.{para-Expr}
use Rattle.rx_tree.specs.declared.expr.SendPart.{SendPart}
use Rattle.rx_tree.specs.declared.value.Value.{Value}
use Rattle.rx_tree.specs.declared.value.Value.TheVariants.{Str, Ref}
use Rattle.rx_tree.specs.declared.activity.Awaited.TheVariants as awaited
use Rattle.rx_eval.specs.declared.call.Pending.{Pending}
use Rattle.rx_eval.specs.declared.call.Sent.TheVariants as s
use Rattle.rx_eval.specs.declared.code.Callee.{Callee}
use Rattle.rx_eval.specs.declared.code.Callee.TheVariants as callees
use Rattle.rx_eval.specs.declared.reading.Reading.{Reading}
use Rattle.rx_eval.specs.declared.reading.Reading.TheVariants as r
use Rattle.rx_eval.specs.Reading.{Scene, variable, environment, object_named, symbol}
use Rattle.rx_eval.specs.Calling.{asks_string, operator_message, message, message_of, pending, callee, wants_strings, in_text, builtin_value}

-- What an expression comes to: a value; the number of the error that it raises; a variable without a value, where NOVALUE is
-- trapped; or its first call, from left to right and from the inside out, with what is left of the expression: all to the left
-- of the call is replaced by its value, and the call by a hole. Behind `~~` the receiver's value stands there in place of the
-- hole.
pub data Found : Type 0 where
  Done : Value → Found
  Raise : ℕ → Found
  NoValue : List ℕ → Found
  Call : Pending → Expr → Found

-- What a part comes to; its value goes on, and what is left of it has the rest of the expression around it.
abbrev pub follow : Found → (Expr → Expr) → (Value → Found) → Found
follow (Done value) around go = go value
follow (Raise number) around go = Raise number
follow (NoValue name) around go = NoValue name
follow (Call sent rest) around go = Call sent (around rest)

-- an object of which a string is wanted is asked for it
abbrev pub string_of : Value → Found
string_of (Str bytes) = Done (Str bytes)
string_of (Ref object) = Call (asks_string object) e.Hole

abbrev pub wanted : Bool → Found → Found
wanted false found = found
wanted true found = follow found (λ rest. rest) string_of

abbrev pub found_of : Result Value ℕ → Found
found_of (Ok value) = Done value
found_of (Err number) = Raise number

abbrev pub found_in : Reading → Found
found_in (r.Gives value) = Done value
found_in (r.NoValue name) = NoValue name
found_in (r.Raises number) = Raise number

-- ---- forms that go on: an expression with one more operator and operand behind it, with one more operator before it, with
-- one more message behind it

abbrev pub behind_layer : Expr-F Expr SendPart → Expr → Oper → Expr → Expr
behind_layer (Expr-F.Chain first terms) left oper right = e.Chain first (terms ++ (oper, right) ∷ [])
behind_layer _ left oper right = e.Chain left ((oper, right) ∷ [])

unfoldable pub behind : Expr → Oper → Expr → Expr
behind left oper right = behind_layer (out-Expr left) left oper right

abbrev pub before_layer : Expr-F Expr SendPart → Oper → Expr → Expr
before_layer (Expr-F.Prefix opers inner) oper right = e.Prefix (oper ∷ opers) inner
before_layer _ oper right = e.Prefix (oper ∷ []) right

unfoldable pub before : Oper → Expr → Expr
before oper right = before_layer (out-Expr right) oper right

abbrev pub sending_layer : Expr-F Expr SendPart → Expr → SendPart → Expr
sending_layer (Expr-F.Sends receiver parts) target part = e.Sends receiver (parts ++ part ∷ [])
sending_layer _ target part = e.Sends target (part ∷ [])

unfoldable pub sending : Expr → SendPart → Expr
sending target part = sending_layer (out-Expr target) target part

-- ---- operators

-- An operator between two values. An object on the left is sent a message; one on the right is asked for its string.
abbrev pub operate : ℕ → Oper → Value → Value → Found
operate digits oper (Ref object) right = Call (operator_message oper object (Some right ∷ [])) e.Hole
operate digits oper (Str left) (Ref object) = Call (asks_string object) (e.Chain (e.Const (Str left)) ((oper, e.Hole) ∷ []))
operate digits oper (Str left) (Str right) = found_of (in_text (value oper left right digits))

-- An operator in front of a value. An object is sent a message.
abbrev pub operate_before : ℕ → Oper → Value → Found
operate_before digits oper (Ref object) = Call (operator_message oper object []) e.Hole
operate_before digits oper (Str right) = found_of (in_text (prefix_value oper right digits))

-- One more operator and operand behind what was found so far. A join wants strings.
abbrev pub operated : ℕ → Found → Oper → Expr × Found → Found
operated digits found oper right =
    follow (wanted (is_join oper) found) (λ rest. behind rest oper right.0)
    (λ left. follow right.1 (λ rest. e.Chain (e.Const left) ((oper, rest) ∷ [])) (operate digits oper left))

abbrev pub chained : ℕ → Found → List (Oper × (Expr × Found)) → Found
chained digits found [] = found
chained digits found (term ∷ terms) = chained digits (operated digits found term.0 term.1) terms

-- operators before what was found, the last one first
abbrev pub prefixed : ℕ → List Oper → Found → Found
prefixed digits [] found = found
prefixed digits (oper ∷ opers) found = follow (prefixed digits opers found) (before oper) (operate_before digits oper)

-- ---- arguments, from left to right

abbrev pub trees_of : List (Option (Expr × Found)) → List (Option Expr)
trees_of [] = []
trees_of (None ∷ args) = None ∷ trees_of args
trees_of (Some arg ∷ args) = Some arg.0 ∷ trees_of args

-- a string may be wanted of each
abbrev pub arguments : Bool → List (Option (Expr × Found)) → (List (Option Expr) → Expr) → (List (Option Value) → Found) → Found
arguments strings [] around go = go []
arguments strings (None ∷ args) around go =
    arguments strings args (λ rest. around (None ∷ rest)) (λ values. go (None ∷ values))
arguments strings (Some arg ∷ args) around go =
    follow (wanted strings arg.1) (λ rest. around (Some rest ∷ trees_of args))
    (λ value. arguments strings args (λ rest. around (Some (e.Const value) ∷ rest)) (λ values. go (Some value ∷ values)))

-- ---- functions

-- A built-in function has its value; a label or a routine is called.
abbrev pub called : Scene → Callee → List ℕ → List (Option Value) → Found
called scene callees.Label name values = Call (pending (s.Label name values) awaited.Function) e.Hole
called scene callees.Builtin name values = found_of (builtin_value scene.facts name values)
called scene callees.Routine name values = Call (pending (s.Routine name values) awaited.Function) e.Hole

abbrev pub function : Scene → List ℕ → Bool → List (Option (Expr × Found)) → Found
function scene name is_string args =
    arguments (wants_strings (callee scene.body name is_string)) args (e.Function name is_string)
    (called scene (callee scene.body name is_string) name)

-- ---- messages

-- what stands in place of a message: behind `~~` the receiver's value, else a hole for the answer
abbrev pub answer : Bool → Value → Expr
answer true target = e.Const target
answer false target = e.Hole

abbrev pub with_args : SendPart → List (Option Expr) → SendPart
with_args part args = record { name = part.name; above = part.above; args = args; back = part.back; bracket = part.bracket }

-- The class in which a method is sought first: the value of its symbol, and error 93 where that is a string. It is looked up
-- behind the arguments.
abbrev pub of_class : Reading → (Option ℕ → Found) → Found
of_class (r.Gives (Str bytes)) go = Raise 93
of_class (r.Gives (Ref class)) go = go (Some class)
of_class (r.NoValue name) go = NoValue name
of_class (r.Raises number) go = Raise number

abbrev pub in_scope : Scene → Option (List ℕ) → (Option ℕ → Found) → Found
in_scope scene None go = go None
in_scope scene (Some class) go = of_class (symbol scene.facts class (object_named scene.body class)) go

abbrev pub messaged : Scene → SendPart → Value → List (Option Value) → Found
messaged scene part target values =
    in_scope scene part.above
    (λ scope. Call (message target (message_of part.name part.bracket) part.back scope values) (answer part.back target))

-- one more message to what was found so far
abbrev pub sent : Scene → Found → SendPart → List (Option (Expr × Found)) → Found
sent scene found part args =
    follow found (λ rest. sending rest part)
    (λ target. arguments false args (λ rest. e.Sends (e.Const target) (with_args part rest ∷ []))
    (messaged scene part target))

abbrev pub sent_all : Scene → Found → List (SendPart × List (Option (Expr × Found))) → Found
sent_all scene found [] = found
sent_all scene found (part ∷ parts) = sent_all scene (sent scene found part.0 part.1) parts

-- ---- all forms

-- One level of an expression, with each part beside what it comes to. A hole comes to the empty string; no expression of a
-- source has one.
abbrev pub level : Scene → Expr-F (Expr × Found) (SendPart × List (Option (Expr × Found))) → Found
level scene (Expr-F.Const value) = Done value
level scene (Expr-F.Name name) = found_in (variable scene.facts name)
level scene (Expr-F.Environment name) = Done (environment name (object_named scene.body name))
level scene (Expr-F.Prefix opers inner) =
    prefixed scene.facts.frame.digits opers (follow inner.1 (λ rest. e.Prefix [] rest) Done)
level scene (Expr-F.Chain first terms) = chained scene.facts.frame.digits (follow first.1 (λ rest. e.Chain rest []) Done) terms
level scene (Expr-F.Group inner) = follow inner.1 e.Group Done
level scene (Expr-F.Function name is_string args) = function scene name is_string args
level scene (Expr-F.Sends receiver parts) = sent_all scene (follow receiver.1 (λ rest. e.Sends rest []) Done) parts
level scene Expr-F.Hole = Done (Str [])

-- what an expression comes to
unfoldable pub evaluate : Scene → Expr → Found
evaluate scene = para-Expr Found (List (Option (Expr × Found))) (level scene) (λ part. part.args)

-- Several expressions, each with whether a string is wanted of it: the values of all, or what is met first, with what is
-- left of all.
pub data AllFound : Type 0 where
  AllDone : List Value → AllFound
  AllRaise : ℕ → AllFound
  AllNoValue : List ℕ → AllFound
  AllCall : Pending → List (Expr × Bool) → AllFound

abbrev pub follow_all : Found → (Expr → List (Expr × Bool)) → (Value → AllFound) → AllFound
follow_all (Done value) around go = go value
follow_all (Raise number) around go = AllRaise number
follow_all (NoValue name) around go = AllNoValue name
follow_all (Call sent rest) around go = AllCall sent (around rest)

abbrev pub in_front : Value → Bool → AllFound → AllFound
in_front value string (AllDone values) = AllDone (value ∷ values)
in_front value string (AllRaise number) = AllRaise number
in_front value string (AllNoValue name) = AllNoValue name
in_front value string (AllCall sent trees) = AllCall sent ((e.Const value, string) ∷ trees)

abbrev pub evaluate_all : Scene → List (Expr × Bool) → AllFound
evaluate_all scene [] = AllDone []
evaluate_all scene (tree ∷ trees) =
    follow_all (wanted tree.1 (evaluate scene tree.0)) (λ rest. (rest, tree.1) ∷ trees)
    (λ value. in_front value tree.1 (evaluate_all scene trees))
