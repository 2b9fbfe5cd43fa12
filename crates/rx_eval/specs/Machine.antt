-- What an instruction does to the values before it.
use Rattle.std.specs.Prelude.{ℕ, Bool, true, false, List, [], ◌∷◌, Option, Some, None, Result, Ok, Err}
use Rattle.rx_operators.specs.Operators.{value, prefix_value}
use Rattle.rx_tree.specs.declared.token.Oper.{Oper}
use Rattle.rx_tree.specs.declared.value.Value.{Value}
use Rattle.rx_tree.specs.declared.value.Value.TheVariants.{Str, Ref}
use Rattle.rx_tree.specs.declared.activity.Awaited.{Awaited}
use Rattle.rx_tree.specs.declared.activity.Awaited.TheVariants as awaited
use Rattle.rx_eval.specs.declared.call.Pending.{Pending}
use Rattle.rx_eval.specs.declared.call.Sent.TheVariants as s
use Rattle.rx_eval.specs.declared.code.Callee.{Callee}
use Rattle.rx_eval.specs.declared.code.Callee.TheVariants as callees
use Rattle.rx_eval.specs.declared.code.Class.{Class}
use Rattle.rx_eval.specs.declared.code.Sending.{Sending}
use Rattle.rx_eval.specs.declared.code.Instr.{Instr}
use Rattle.rx_eval.specs.declared.code.Instr.TheVariants as i
use Rattle.rx_eval.specs.declared.facts.Facts.{Facts}
use Rattle.rx_eval.specs.declared.reading.Reading.{Reading}
use Rattle.rx_eval.specs.declared.reading.Reading.TheVariants as r
use Rattle.rx_eval.specs.Calling.{asks_string, operator_message, message, pending, in_text, builtin_value}
use Rattle.rx_eval.specs.Reading.{environment, symbol, variable}

-- The values, the last one first; an error; a variable without a value; a call, with whether the instruction is done again,
-- and the values below; or too few values.
pub data Moved : Type 0 where
  Next : List Value → Moved
  Raises : ℕ → Moved
  Lacks : List ℕ → Moved
  Calls : Pending → Bool → List Value → Moved
  Stuck : Moved

-- whether the answer of a call becomes a value
abbrev pub is_kept : Awaited → Bool
is_kept awaited.Dropped = false
is_kept _ = true

abbrev pub moved_by : List Value → Result Value ℕ → Moved
moved_by values (Ok value) = Next (value ∷ values)
moved_by values (Err number) = Raises number

abbrev pub moved_to : List Value → Reading → Moved
moved_to values (r.Gives value) = Next (value ∷ values)
moved_to values (r.NoValue name) = Lacks name
moved_to values (r.Raises number) = Raises number

abbrev pub popping : List Bool → List Value → List (Option Value) → (List (Option Value) → List Value → Moved) → Moved
popping [] values args go = go args values
popping (false ∷ shape) values args go = popping shape values (None ∷ args) go
popping (true ∷ shape) [] args go = Stuck
popping (true ∷ shape) (value ∷ values) args go = popping shape values (Some value ∷ args) go

abbrev pub move_oper : ℕ → Oper → Value → Value → List Value → Moved
move_oper digits oper (Ref object) right values = Calls (operator_message oper object (Some right ∷ [])) false values
move_oper digits oper (Str left) (Ref object) values = Calls (asks_string object) true (Str left ∷ values)
move_oper digits oper (Str left) (Str right) values = moved_by values (in_text (value oper left right digits))

abbrev pub move_prefix : ℕ → Oper → Value → List Value → Moved
move_prefix digits oper (Ref object) values = Calls (operator_message oper object []) false values
move_prefix digits oper (Str right) values = moved_by values (in_text (prefix_value oper right digits))

abbrev pub move_wanted : Value → List Value → Moved
move_wanted (Ref object) values = Calls (asks_string object) true values
move_wanted (Str bytes) values = Next (Str bytes ∷ values)

abbrev pub move_callee : Facts → Callee → List ℕ → List (Option Value) → List Value → Moved
move_callee facts callees.Label name args values = Calls (pending (s.Label name args) awaited.Function) false values
move_callee facts callees.Builtin name args values = moved_by values (builtin_value facts name args)
move_callee facts callees.Routine name args values = Calls (pending (s.Routine name args) awaited.Function) false values

abbrev pub class_moved : Reading → (Option ℕ → Moved) → Moved
class_moved (r.Gives (Str bytes)) go = Raises 93
class_moved (r.Gives (Ref object)) go = go (Some object)
class_moved (r.NoValue name) go = Lacks name
class_moved (r.Raises number) go = Raises number

abbrev pub scope_moved : Facts → Option Class → (Option ℕ → Moved) → Moved
scope_moved facts None go = go None
scope_moved facts (Some class) go = class_moved (symbol facts class.name class.object) go

abbrev pub left_of : Bool → Value → List Value → List Value
left_of true target values = target ∷ values
left_of false target values = values

abbrev pub message_moved : Sending → List (Option Value) → Value → List Value → Option ℕ → Moved
message_moved send args target values scope =
    Calls (message target send.message send.back scope args) false (left_of send.back target values)

abbrev pub move_send : Facts → Sending → List (Option Value) → List Value → Moved
move_send facts send args [] = Stuck
move_send facts send args (target ∷ values) = scope_moved facts send.class (message_moved send args target values)

abbrev pub pair_moved : ℕ → Oper → List Value → Moved
pair_moved digits oper (right ∷ left ∷ values) = move_oper digits oper left right values
pair_moved digits oper _ = Stuck

abbrev pub move : Facts → Instr → List Value → Moved
move facts (i.Const value) values = Next (value ∷ values)
move facts (i.Name name) values = moved_to values (variable facts name)
move facts (i.Environment name object) values = Next (environment name object ∷ values)
move facts (i.Begin form) values = Next values
move facts (i.Oper oper) values = pair_moved facts.frame.digits oper values
move facts (i.Prefix oper) (right ∷ values) = move_prefix facts.frame.digits oper right values
move facts i.Group values = Next values
move facts (i.Function call) values = popping call.shape values [] (move_callee facts call.callee call.name)
move facts (i.Send send) values = popping send.shape values [] (move_send facts send)
move facts i.Wanted (value ∷ values) = move_wanted value values
move facts _ values = Stuck
