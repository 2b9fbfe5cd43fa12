-- No native method loses a Message that waits, a line a method.
use Rattle.std.proofs.Common.{◌≡◌, ℕ, ◌-◌, List, [], ◌∷◌, ◌++◌, length, map, drop, Option, Some, None, refl, arith}
use Rattle.std.specs.Prelude.{◌&&◌, nat_le, nat_lt, replicate, Err}
use Rattle.std.specs.Option.{option_map_or}
use Rattle.std.specs.Str.{str_to_ascii_uppercase}
use Rattle.rx_tree.specs.Object.{Object, Message, Places, Line, Names}
use Rattle.rx_tree.specs.declared.value.Value.{Value}
use Rattle.rx_tree.specs.declared.value.Value.TheVariants.{Ref}
use Rattle.rx_tree.specs.declared.class.ClassDef.{ClassDef}
use Rattle.rx_builtin.specs.declared.facts.Facts.{Facts}
use Rattle.rx_builtin.specs.Functions.{function_value}
use Rattle.rx_classes.specs.Natives.{array_class, message_class}
use Rattle.rx_classes.specs.Installing.{is_closed}
use Rattle.rx_classes.specs.Orders.{order}
use Rattle.rx_heap.specs.declared.kind.Kind.TheVariants as k
use Rattle.rx_heap.specs.Arrays.{most_places, with_item, without_item}
use Rattle.rx_heap.specs.Directories.{without_name}
use Rattle.rx_heap.specs.Objects.{IsOfKind, empty_of, entries_at, items_at, places_at}
use Rattle.rx_vars.specs.Tables.{with_entry}
use Rattle.rx_native.specs.declared.answer.NativeAnswer.TheVariants as a
use Rattle.rx_native.specs.declared.answer.Began.TheVariants as b
use Rattle.rx_native.specs.declared.method.Method.{Method}
use Rattle.rx_native.specs.declared.method.Method.TheVariants as m
use Rattle.rx_native.specs.declared.object.OfObject.{OfObject}
use Rattle.rx_native.specs.declared.object.OfObject.TheVariants as o
use Rattle.rx_native.specs.declared.class.OfClass.{OfClass}
use Rattle.rx_native.specs.declared.class.OfClass.TheVariants as c
use Rattle.rx_native.specs.declared.string.OfString.{OfString}
use Rattle.rx_native.specs.declared.array.OfArrayClass.{OfArrayClass}
use Rattle.rx_native.specs.declared.array.OfArrayClass.TheVariants as ac
use Rattle.rx_native.specs.declared.array.OfArray.{OfArray}
use Rattle.rx_native.specs.declared.array.OfArray.TheVariants as ar
use Rattle.rx_native.specs.declared.queue.OfQueue.{OfQueue}
use Rattle.rx_native.specs.declared.queue.OfQueue.TheVariants as q
use Rattle.rx_native.specs.declared.directory.OfDirectory.{OfDirectory}
use Rattle.rx_native.specs.declared.directory.OfDirectory.TheVariants as d
use Rattle.rx_native.specs.Arguments.{Arguments, index_alone, name_alone, name_and_rest, name_of, no_argument, size_alone, two_values, value_alone, value_and_index, value_and_name}
use Rattle.rx_native.specs.ArrayMethods.{array_answer, array_class_answer, items_of, makes_array_of, up_to_last}
use Rattle.rx_native.specs.ClassMethods.{class_answer, kind_in}
use Rattle.rx_native.specs.DirectoryMethods.{directory_answer, entry_answer, name_to_put, name_value, places_in}
use Rattle.rx_native.specs.Fitting.{Fits, IsReached, IsThere}
use Rattle.rx_native.specs.Methods.{answer_of, method_numbered, object_in}
use Rattle.rx_native.specs.ObjectMethods.{class_in, object_answer, sending, starts, string_of, waits_for_message}
use Rattle.rx_native.specs.Outcomes.{incorrect_method_call}
use Rattle.rx_native.specs.QueueMethods.{queue_answer}
use Rattle.rx_native.specs.StringMethods.{function_of, of_function, string_answer, texts_of, with_receiver}
use Rattle.rx_native.specs.Targets.{is_message}
use Rattle.rx_native.proofs.ReachLemmas.{array-receiver, directory-receiver, queue-receiver}
use Rattle.rx_sends.proofs.WaitLemmas.{OutcomeKeeps, if-keeps, makes-keeps, new-waits, on-keeps, same, with-keeps}

-- ---- Object

start-keeps : (objects : List Object) (target : Value) (name : List ℕ) (args : Arguments) → OutcomeKeeps objects (starts objects target name args)
start-keeps objects target name args =
    if-keeps objects (is_message objects target && waits_for_message name) _ _ tt
    (makes-keeps objects message_class (Message (sending target name args)) (λ (message : ℕ). a.Begin (b.Start message))
    (omega arith, new-waits objects message_class (Message (sending target name args))))

object-keeps : (method : OfObject) (classes : List ClassDef) (objects : List Object) (target : Value) (args : Arguments)
    → OutcomeKeeps objects (object_answer method classes objects target args)
object-keeps o.Same classes objects target args = on-keeps objects (value_alone args) _ (λ other. (same objects, tt))
object-keeps o.Different classes objects target args = on-keeps objects (value_alone args) _ (λ other. (same objects, tt))
object-keeps o.Class classes objects target args = on-keeps objects (no_argument args) _ (λ none. (same objects, tt))
object-keeps o.String classes objects target args =
    on-keeps objects (no_argument args) _ (λ none. on-keeps objects (string_of classes objects target) _ (λ text. (same objects, tt)))
object-keeps o.Hasmethod classes objects target args = on-keeps objects (name_alone args) _ (λ name. (same objects, tt))
object-keeps o.Isa classes objects target args =
    on-keeps objects (value_alone args) _ (λ value. on-keeps objects (class_in objects value) _ (λ class. (same objects, tt)))
object-keeps o.Start classes objects target args =
    on-keeps objects (name_and_rest args) _ (λ sent. start-keeps objects target (str_to_ascii_uppercase sent.0) sent.1)
object-keeps o.Init classes objects target args = on-keeps objects (no_argument args) _ (λ none. (same objects, tt))

-- ---- Class

class-keeps : (method : OfClass) (classes : List ClassDef) (objects : List Object) (class : ℕ) (args : Arguments)
    → OutcomeKeeps objects (class_answer method classes objects class args)
class-keeps c.New classes objects class args =
    if-keeps objects (is_closed class) _ _ tt
    (makes-keeps objects class (empty_of (kind_in (order classes class))) (λ (object : ℕ). a.Begin (b.New object)) tt)
class-keeps c.Id classes objects class args = on-keeps objects (no_argument args) _ (λ none. (same objects, tt))
class-keeps c.Superclass classes objects class args = on-keeps objects (no_argument args) _ (λ none. (same objects, tt))

-- ---- String

string-keeps : (method : OfString) (facts : Facts) (objects : List Object) (target : Value) (args : Arguments)
    → OutcomeKeeps objects (string_answer method facts objects target args)
string-keeps method facts objects target args =
    on-keeps objects (texts_of (with_receiver (function_of method).receiver target args)) _ (λ texts.
    on-keeps objects (of_function (function_value (function_of method).name texts facts)) _ (λ text. (same objects, tt)))

-- ---- Array

array-of-keeps : (objects : List Object) (items : List Value) → OutcomeKeeps objects (makes_array_of objects items)
array-of-keeps objects items =
    if-keeps objects (nat_le (length (map Some items)) most_places) _ _
    (makes-keeps objects array_class (Places (map Some items)) (λ (array : ℕ). a.Value (Ref array)) tt) tt

array-class-keeps : (method : OfArrayClass) (objects : List Object) (class : ℕ) (args : Arguments)
    → OutcomeKeeps objects (array_class_answer method objects class args)
array-class-keeps ac.New objects class args =
    on-keeps objects (size_alone args) _ (λ size.
    makes-keeps objects class (Places (replicate size None)) (λ (array : ℕ). a.Begin (b.New array)) tt)
array-class-keeps ac.Of objects class args =
    if-keeps objects (nat_le (length (up_to_last args)) most_places) _ _
    (makes-keeps objects class (Places (up_to_last args)) (λ (array : ℕ). a.Value (Ref array)) tt) tt

array-keeps : (method : OfArray) (objects : List Object) (array : ℕ) (args : Arguments) → IsOfKind objects array k.Array
    → OutcomeKeeps objects (array_answer method objects array args)
array-keeps ar.At objects array args kind = on-keeps objects (index_alone args) _ (λ i. (same objects, tt))
array-keeps ar.Put objects array args kind =
    on-keeps objects (value_and_index args) _ (λ put.
    (with-keeps objects array (Places (with_item (places_at objects array) (put.1 - 1) put.0)) k.Array kind refl, tt))
array-keeps ar.Append objects array args kind =
    on-keeps objects (value_alone args) _ (λ value. if-keeps objects (nat_lt (length (places_at objects array)) most_places) _ _
    (with-keeps objects array (Places (with_item (places_at objects array) (length (places_at objects array)) value)) k.Array kind refl, tt) tt)
array-keeps ar.Remove objects array args kind =
    on-keeps objects (index_alone args) _ (λ i.
    (with-keeps objects array (Places (without_item (places_at objects array) (i - 1))) k.Array kind refl, tt))
array-keeps ar.Hasindex objects array args kind = on-keeps objects (index_alone args) _ (λ i. (same objects, tt))
array-keeps ar.Items objects array args kind = on-keeps objects (no_argument args) _ (λ none. (same objects, tt))
array-keeps ar.Size objects array args kind = on-keeps objects (no_argument args) _ (λ none. (same objects, tt))
array-keeps ar.Makearray objects array args kind =
    on-keeps objects (no_argument args) _ (λ none. array-of-keeps objects (items_of (places_at objects array)))

-- ---- Queue

queue-keeps : (method : OfQueue) (objects : List Object) (queue : ℕ) (args : Arguments) → IsOfKind objects queue k.Queue
    → OutcomeKeeps objects (queue_answer method objects queue args)
queue-keeps q.Queue objects queue args kind =
    on-keeps objects (value_alone args) _ (λ value.
    (with-keeps objects queue (Line (items_at objects queue ++ value ∷ [])) k.Queue kind refl, tt))
queue-keeps q.Push objects queue args kind =
    on-keeps objects (value_alone args) _ (λ value. (with-keeps objects queue (Line (value ∷ items_at objects queue)) k.Queue kind refl, tt))
queue-keeps q.Pull objects queue args kind =
    on-keeps objects (no_argument args) _ (λ none. (with-keeps objects queue (Line (drop 1 (items_at objects queue))) k.Queue kind refl, tt))
queue-keeps q.Peek objects queue args kind = on-keeps objects (no_argument args) _ (λ none. (same objects, tt))
queue-keeps q.Items objects queue args kind = on-keeps objects (no_argument args) _ (λ none. (same objects, tt))
queue-keeps q.At objects queue args kind = on-keeps objects (index_alone args) _ (λ i. (same objects, tt))
queue-keeps q.Makearray objects queue args kind =
    on-keeps objects (no_argument args) _ (λ none. array-of-keeps objects (items_at objects queue))

-- ---- Directory

entry-keeps : (objects : List Object) (directory : ℕ) (name : List ℕ) (put : Option (List ℕ)) (args : Arguments) → IsOfKind objects directory k.Directory
    → OutcomeKeeps objects (entry_answer objects directory name put args)
entry-keeps objects directory name None [] kind = (same objects, tt)
entry-keeps objects directory name None (argument ∷ args) kind = tt
entry-keeps objects directory name (Some put) [] kind = tt
entry-keeps objects directory name (Some put) (None ∷ args) kind = tt
entry-keeps objects directory name (Some put) (Some value ∷ []) kind =
    (with-keeps objects directory (Names (with_entry (entries_at objects directory) put value)) k.Directory kind refl, tt)
entry-keeps objects directory name (Some put) (Some value ∷ (argument ∷ args)) kind = tt

directory-keeps : (method : OfDirectory) (objects : List Object) (directory : ℕ) (args : Arguments) → IsOfKind objects directory k.Directory
    → OutcomeKeeps objects (directory_answer method objects directory args)
directory-keeps d.At objects directory args kind = on-keeps objects (name_alone args) _ (λ name. (same objects, tt))
directory-keeps d.Put objects directory args kind =
    on-keeps objects (value_and_name args) _ (λ put.
    (with-keeps objects directory (Names (with_entry (entries_at objects directory) put.1 put.0)) k.Directory kind refl, tt))
directory-keeps d.Remove objects directory args kind =
    on-keeps objects (name_alone args) _ (λ name.
    (with-keeps objects directory (Names (without_name (entries_at objects directory) name)) k.Directory kind refl, tt))
directory-keeps d.Hasindex objects directory args kind = on-keeps objects (name_alone args) _ (λ name. (same objects, tt))
directory-keeps d.Items objects directory args kind = on-keeps objects (no_argument args) _ (λ none. (same objects, tt))
directory-keeps d.Makearray objects directory args kind =
    on-keeps objects (no_argument args) _ (λ none. array-of-keeps objects (map name_value (entries_at objects directory)))
directory-keeps d.Unknown objects directory args kind =
    on-keeps objects (two_values args) _ (λ both. on-keeps objects (name_of both.0) _ (λ name. on-keeps objects (places_in objects both.1) _ (λ places.
    entry-keeps objects directory (str_to_ascii_uppercase name) (name_to_put (str_to_ascii_uppercase name)) places kind)))

-- ---- all of them

answer-keeps : (method : Method) (facts : Facts) (classes : List ClassDef) (objects : List Object) (target : Value) (id : ℕ) (args : Arguments)
    → Fits classes objects → IsThere objects target → IsReached classes objects target id → method_numbered id ≡ Some method
    → OutcomeKeeps objects (answer_of method facts classes objects target args)
answer-keeps (m.Object method) facts classes objects target id args fits there reached is = object-keeps method classes objects target args
answer-keeps (m.Class method) facts classes objects target id args fits there reached is = class-keeps method classes objects (object_in target) args
answer-keeps (m.String method) facts classes objects target id args fits there reached is = string-keeps method facts objects target args
answer-keeps (m.ArrayClass method) facts classes objects target id args fits there reached is = array-class-keeps method objects (object_in target) args
answer-keeps (m.Array method) facts classes objects target id args fits there reached is =
    array-keeps method objects (object_in target) args (array-receiver classes objects target id method is reached there fits)
answer-keeps (m.Queue method) facts classes objects target id args fits there reached is =
    queue-keeps method objects (object_in target) args (queue-receiver classes objects target id method is reached there fits)
answer-keeps (m.Directory method) facts classes objects target id args fits there reached is =
    directory-keeps method objects (object_in target) args (directory-receiver classes objects target id method is reached there fits)

numbered-keeps : (facts : Facts) (classes : List ClassDef) (objects : List Object) (target : Value) (id : ℕ) (args : Arguments) (method : Option Method)
    → Fits classes objects → IsThere objects target → IsReached classes objects target id → method_numbered id ≡ method
    → OutcomeKeeps objects (option_map_or (λ (one : Method). answer_of one facts classes objects target args) method (Err incorrect_method_call))
numbered-keeps facts classes objects target id args None fits there reached is = tt
numbered-keeps facts classes objects target id args (Some method) fits there reached is =
    answer-keeps method facts classes objects target id args fits there reached is

pub native-keeps : (facts : Facts) (classes : List ClassDef) (objects : List Object) (target : Value) (id : ℕ) (args : Arguments)
    → Fits classes objects → IsThere objects target → IsReached classes objects target id
    → OutcomeKeeps objects (option_map_or (λ (one : Method). answer_of one facts classes objects target args) (method_numbered id) (Err incorrect_method_call))
native-keeps facts classes objects target id args fits there reached =
    numbered-keeps facts classes objects target id args (method_numbered id) fits there reached refl
