-- What the methods of Object come to. A string has them too.
use Rattle.std.specs.Prelude.{ℕ, ◌==◌, ◌&&◌, ◌||◌, Bool, true, false, not, if◌then◌else◌, List, [], ◌++◌, codes, slice_get, Result, Ok, Err}
use Rattle.std.specs.List.{list_any}
use Rattle.std.specs.Option.{option_map_or}
use Rattle.std.specs.Str.{bytes_eq, str_to_ascii_uppercase}
use Rattle.rx_answers.specs.Answers.{within_limit}
use Rattle.rx_tree.specs.Object.{Object, Message, Sending}
use Rattle.rx_tree.specs.declared.value.Value.{Value}
use Rattle.rx_tree.specs.declared.value.Value.TheVariants.{Str, Ref}
use Rattle.rx_tree.specs.declared.activity.Outcome.TheVariants.{Waiting}
use Rattle.rx_tree.specs.declared.class.ClassDef.{ClassDef}
use Rattle.rx_classes.specs.Natives.{message_class}
use Rattle.rx_classes.specs.Classes.{class_name}
use Rattle.rx_classes.specs.Orders.{has, order}
use Rattle.rx_heap.specs.Objects.{class_at}
use Rattle.rx_native.specs.declared.answer.NativeAnswer.TheVariants as a
use Rattle.rx_native.specs.declared.answer.Began.TheVariants as b
use Rattle.rx_native.specs.declared.object.OfObject.{OfObject}
use Rattle.rx_native.specs.declared.object.OfObject.TheVariants as o
use Rattle.rx_native.specs.Outcomes.{Outcome, incorrect_method_call, invalid_argument, on, gives, changes, makes, truth_value}
use Rattle.rx_native.specs.Arguments.{Arguments, no_argument, value_alone, name_alone, name_and_rest}
use Rattle.rx_native.specs.Targets.{class_of_value, has_method, is_class, is_message}

-- whether two values are one object, or strings of the same bytes
abbrev pub is_same : Value → Value → Bool
is_same (Str text) (Str other) = bytes_eq text other
is_same (Str text) (Ref other) = false
is_same (Ref object) (Str other) = false
is_same (Ref object) (Ref other) = object == other

-- ---- STRING

abbrev pub is_vowel : ℕ → Bool
is_vowel letter = list_any (λ (vowel : ℕ). letter == vowel) (codes "AEIOU")

-- `an` before A, E, I, O and U, else `a`
abbrev pub article : List ℕ → List ℕ
article name = if option_map_or is_vowel (slice_get name 0) false then codes "an " else codes "a "

abbrev pub object_text : List ClassDef → List Object → ℕ → List ℕ
object_text classes objects object =
    if object == 1 then codes "The NIL object"
    else if is_class objects object then codes "The " ++ (class_name classes object ++ codes " class")
    else article (class_name classes (class_at objects object)) ++ class_name classes (class_at objects object)

-- the string of a value: of an object by its class's name, of a class by its own
abbrev pub string_of : List ClassDef → List Object → Value → Result (List ℕ) ℕ
string_of classes objects (Str text) = Ok text
string_of classes objects (Ref object) = within_limit (object_text classes objects object)

-- ---- ISA

-- the class that a value is
abbrev pub class_in : List Object → Value → Result ℕ ℕ
class_in objects (Str text) = Err invalid_argument
class_in objects (Ref object) = if is_class objects object then Ok object else Err invalid_argument

-- whether a value's class is a class, or has it in its order
abbrev pub is_a : List ClassDef → List Object → Value → ℕ → Bool
is_a classes objects target class = has (order classes (class_of_value objects target)) class

-- ---- START

abbrev pub waits_for_message : List ℕ → Bool
waits_for_message name = bytes_eq name (codes "SEND") || bytes_eq name (codes "RESULT")

-- a Message that is to be sent
abbrev pub sending : Value → List ℕ → Arguments → Sending
sending target name args =
    record { target = target; name = name; args = args; used = true; outcome = Waiting; notify = [] }

-- A Message is made and begun. A Message isn't sent SEND or RESULT by START.
abbrev pub starts : List Object → Value → List ℕ → Arguments → Outcome
starts objects target name args =
    if is_message objects target && waits_for_message name then Err incorrect_method_call
    else makes objects message_class (Message (sending target name args)) (λ (message : ℕ). a.Begin (b.Start message))

-- ---- the methods

abbrev pub object_answer : OfObject → List ClassDef → List Object → Value → Arguments → Outcome
object_answer o.Same classes objects target args =
    on (value_alone args) (λ (other : Value). gives objects (truth_value (is_same target other)))
object_answer o.Different classes objects target args =
    on (value_alone args) (λ (other : Value). gives objects (truth_value (not (is_same target other))))
object_answer o.Class classes objects target args =
    on (no_argument args) (λ (none : Unit {0}). gives objects (Ref (class_of_value objects target)))
object_answer o.String classes objects target args =
    on (no_argument args) (λ (none : Unit {0}). on (string_of classes objects target) (λ (text : List ℕ). gives objects (Str text)))
object_answer o.Hasmethod classes objects target args =
    on (name_alone args) (λ (name : List ℕ). gives objects (truth_value (has_method classes objects target (str_to_ascii_uppercase name))))
object_answer o.Isa classes objects target args =
    on (value_alone args) (λ (value : Value). on (class_in objects value) (λ (class : ℕ).
    gives objects (truth_value (is_a classes objects target class))))
object_answer o.Start classes objects target args =
    on (name_and_rest args) (λ (sent : List ℕ × Arguments). starts objects target (str_to_ascii_uppercase sent.0) sent.1)
object_answer o.Init classes objects target args =
    on (no_argument args) (λ (none : Unit {0}). changes objects)
