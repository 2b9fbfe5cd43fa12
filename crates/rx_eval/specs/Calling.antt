-- Calls: what is sent, how the answer is awaited, and what a function's name calls.
use Rattle.std.specs.Prelude.{ℕ, Bool, true, false, not, ◌&&◌, is_some, if◌then◌else◌, List, [], map, codes, Option, Some, None, Result, Ok, Err}
use Rattle.std.specs.Option.{option_map}
use Rattle.std.specs.Str.{bytes_eq, str_to_ascii_uppercase}
use Rattle.rx_builtin.specs.Frames.{arg_object}
use Rattle.rx_builtin.specs.Functions.{function_value, is_builtin}
use Rattle.rx_operators.specs.Families.{message_name}
use Rattle.rx_tree.specs.declared.token.Oper.{Oper}
use Rattle.rx_tree.specs.declared.value.Value.{Value}
use Rattle.rx_tree.specs.declared.value.Value.TheVariants.{Str, Ref}
use Rattle.rx_vars.specs.Tables.{look_up}
use Rattle.rx_tree.specs.declared.activity.Awaited.{Awaited}
use Rattle.rx_tree.specs.declared.activity.Awaited.TheVariants as awaited
use Rattle.rx_eval.specs.declared.call.Pending.{Pending}
use Rattle.rx_eval.specs.declared.call.Sent.{Sent}
use Rattle.rx_eval.specs.declared.call.Sent.TheVariants as s
use Rattle.rx_eval.specs.declared.code.Callee.{Callee}
use Rattle.rx_eval.specs.declared.code.Callee.TheVariants as callees
use Rattle.rx_eval.specs.Bodies.{Body}
use Rattle.rx_eval.specs.declared.facts.Facts.{Facts}

-- ---- messages

abbrev pub pending : Sent → Awaited → Pending
pending sent how = record { sent = sent; awaited = how }

-- the message that asks an object for its string
abbrev pub asks_string : ℕ → Pending
asks_string object = pending (s.Message (Ref object) (codes "STRING") None []) awaited.String

-- an operator as a message to the object on its left, or behind it
abbrev pub operator_message : Oper → ℕ → List (Option Value) → Pending
operator_message oper object args = pending (s.Message (Ref object) (message_name oper) None args) awaited.Message

-- the name of a message of a message term: in upper case, and that of square brackets where its arguments stand in these
abbrev pub message_of : List ℕ → Bool → List ℕ
message_of name bracket = if bracket then codes "[]" else str_to_ascii_uppercase name

-- a message of a message term: behind `~~` its answer isn't awaited
abbrev pub message : Value → List ℕ → Bool → Option ℕ → List (Option Value) → Pending
message target name back scope args =
    pending (s.Message target name scope args) (if back then awaited.Dropped else awaited.Message)

-- ---- functions

-- a function whose name is a symbol among the labels of the body is an internal routine; else it is a built-in function where
-- it has the name of one, and else a routine
abbrev pub callee : Body → List ℕ → Bool → Callee
callee body name is_string =
    if not is_string && is_some (look_up body.labels name) then callees.Label
    else if is_builtin name then callees.Builtin
    else callees.Routine

-- the arguments of built-in functions are strings
abbrev pub wants_strings : Callee → Bool
wants_strings callees.Builtin = true
wants_strings _ = false

abbrev pub text_of : Value → List ℕ
text_of (Str text) = text
text_of (Ref object) = []

-- the arguments of a built-in function as texts; no object is among them, as each was asked for its string
abbrev pub texts_of : List (Option Value) → List (Option (List ℕ))
texts_of values = map (option_map text_of) values

-- a text as a value
abbrev pub in_text : Result (List ℕ) ℕ → Result Value ℕ
in_text (Ok text) = Ok (Str text)
in_text (Err number) = Err number

abbrev pub known_value : Option (Result (List ℕ) ℕ) → Result Value ℕ
known_value None = Err 43
known_value (Some value) = in_text value

-- the object that ARG gives
abbrev pub object_or : Option ℕ → Result Value ℕ → Result Value ℕ
object_or None value = value
object_or (Some object) value = Ok (Ref object)

-- a built-in function: its value, which is an object where ARG gives one, or the number of the error that it raises
unfoldable pub builtin_value : Facts → List ℕ → List (Option Value) → Result Value ℕ
builtin_value facts name values =
    object_or (if bytes_eq name (codes "ARG") then arg_object (texts_of values) facts.frame else None)
    (known_value (function_value name (texts_of values) facts.frame))
