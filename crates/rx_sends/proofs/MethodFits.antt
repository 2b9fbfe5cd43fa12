-- Objects and classes fit still whatever a native method comes to, a line a method.
use Rattle.std.proofs.Common.{◌≡◌, ℕ, zero, suc, ◌-◌, Bool, true, false, List, [], ◌∷◌, ◌++◌, length, map, drop, Option, Some, None, refl, sym, ap, subst, arith}
use Rattle.std.specs.Prelude.{◌&&◌, Contains, if◌then◌else◌, nat_le, nat_lt, replicate, Err}
use Rattle.std.specs.Option.{option_map_or}
use Rattle.std.specs.Str.{str_to_ascii_uppercase}
use Rattle.rx_tree.specs.Object.{Object, Message, Places, Line, Names}
use Rattle.rx_tree.specs.declared.value.Value.{Value}
use Rattle.rx_tree.specs.declared.value.Value.TheVariants.{Str, Ref}
use Rattle.rx_tree.specs.declared.class.ClassDef.{ClassDef}
use Rattle.rx_tree.specs.declared.class.Scope.{Scope}
use Rattle.rx_builtin.specs.declared.facts.Facts.{Facts}
use Rattle.rx_builtin.specs.Functions.{function_value}
use Rattle.rx_classes.specs.Natives.{array_class, class_class, message_class, object_class, string_class}
use Rattle.rx_classes.specs.Classes.{IsClass}
use Rattle.rx_classes.specs.Installing.{CanInstall, is_closed}
use Rattle.rx_classes.specs.Lookup.{sides}
use Rattle.rx_classes.specs.Orders.{order}
use Rattle.rx_heap.specs.declared.kind.Kind.{Kind}
use Rattle.rx_heap.specs.declared.kind.Kind.TheVariants as k
use Rattle.rx_heap.specs.Arrays.{most_places, with_item, without_item}
use Rattle.rx_heap.specs.Directories.{without_name}
use Rattle.rx_heap.specs.Objects.{IsOfKind, class_at, empty_of, entries_at, items_at, kind_by, places_at}
use Rattle.rx_vars.specs.Tables.{with_entry}
use Rattle.rx_native.specs.declared.answer.NativeAnswer.TheVariants as a
use Rattle.rx_native.specs.declared.answer.Began.TheVariants as b
use Rattle.rx_native.specs.declared.method.Method.{Method}
use Rattle.rx_native.specs.declared.method.Method.TheVariants as m
use Rattle.rx_native.specs.declared.object.OfObject.{OfObject}
use Rattle.rx_native.specs.declared.object.OfObject.TheVariants as o
use Rattle.rx_native.specs.declared.class.OfClass.{OfClass}
use Rattle.rx_native.specs.declared.class.OfClass.TheVariants as c
use Rattle.rx_native.specs.declared.string.OfString.{OfString}
use Rattle.rx_native.specs.declared.array.OfArrayClass.{OfArrayClass}
use Rattle.rx_native.specs.declared.array.OfArrayClass.TheVariants as ac
use Rattle.rx_native.specs.declared.array.OfArray.{OfArray}
use Rattle.rx_native.specs.declared.array.OfArray.TheVariants as ar
use Rattle.rx_native.specs.declared.queue.OfQueue.{OfQueue}
use Rattle.rx_native.specs.declared.queue.OfQueue.TheVariants as q
use Rattle.rx_native.specs.declared.directory.OfDirectory.{OfDirectory}
use Rattle.rx_native.specs.declared.directory.OfDirectory.TheVariants as d
use Rattle.rx_native.specs.Arguments.{Arguments, index_alone, name_alone, name_and_rest, name_of, no_argument, size_alone, two_values, value_alone, value_and_index, value_and_name}
use Rattle.rx_native.specs.ArrayMethods.{array_answer, array_class_answer, items_of, makes_array_of, up_to_last}
use Rattle.rx_native.specs.ClassMethods.{class_answer, kind_in}
use Rattle.rx_native.specs.DirectoryMethods.{directory_answer, entry_answer, name_to_put, name_value, places_in}
use Rattle.rx_native.specs.Fitting.{Fits, IsReached, IsThere}
use Rattle.rx_native.specs.Methods.{answer_of, method_numbered, object_in}
use Rattle.rx_native.specs.ObjectMethods.{class_in, object_answer, sending, string_of, waits_for_message}
use Rattle.rx_native.specs.Outcomes.{incorrect_method_call, makes}
use Rattle.rx_native.specs.QueueMethods.{queue_answer}
use Rattle.rx_native.specs.StringMethods.{function_of, of_function, string_answer, texts_of, with_receiver}
use Rattle.rx_native.specs.Targets.{is_class, is_message, target_scopes}
use Rattle.rx_native.proofs.ReachLemmas.{among-sides, array-receiver, class-receiver, directory-receiver, queue-receiver, scope-reached, scopes_by}
use Rattle.rx_sends.proofs.FitLemmas.{IsFitting, own-array}
use Rattle.rx_sends.proofs.KeepLemmas.{OutcomeFits, array-fitting, fits-with, if-fits, makes-fits, message-fitting, new-fitting, on-fits}
use Rattle.rx_sends.proofs.ReachLemmas.{array-target}

-- ---- Object

object-fits : (method : OfObject) (classes : List ClassDef) (objects : List Object) (target : Value) (args : Arguments) → Fits classes objects
    → OutcomeFits classes (object_answer method classes objects target args)
object-fits o.Same classes objects target args fits = on-fits classes (value_alone args) _ (λ other. fits)
object-fits o.Different classes objects target args fits = on-fits classes (value_alone args) _ (λ other. fits)
object-fits o.Class classes objects target args fits = on-fits classes (no_argument args) _ (λ none. fits)
object-fits o.String classes objects target args fits =
    on-fits classes (no_argument args) _ (λ none. on-fits classes (string_of classes objects target) _ (λ text. fits))
object-fits o.Hasmethod classes objects target args fits = on-fits classes (name_alone args) _ (λ name. fits)
object-fits o.Isa classes objects target args fits =
    on-fits classes (value_alone args) _ (λ value. on-fits classes (class_in objects value) _ (λ class. fits))
object-fits o.Start classes objects target args fits =
    on-fits classes (name_and_rest args) _ (λ sent.
    if-fits classes (is_message objects target && waits_for_message (str_to_ascii_uppercase sent.0)) _ _ tt
    (makes-fits classes objects message_class (Message (sending target (str_to_ascii_uppercase sent.0) sent.1)) (λ (message : ℕ). a.Begin (b.Start message)) (message-fitting classes) fits))
object-fits o.Init classes objects target args fits = on-fits classes (no_argument args) _ (λ none. fits)

-- ---- Class

empty-kind : (kind : Kind) → kind_by (empty_of kind) ≡ kind
empty-kind k.Plain = refl
empty-kind k.ClassObject = refl
empty-kind k.Array = refl
empty-kind k.Queue = refl
empty-kind k.Directory = refl
empty-kind k.Message = refl

class-fits : (method : OfClass) (classes : List ClassDef) (objects : List Object) (class : ℕ) (args : Arguments) → CanInstall classes
    → IsClass classes class → Fits classes objects → OutcomeFits classes (class_answer method classes objects class args)
class-fits c.New classes objects class args all is fits = by (is_closed class) refl
  where
    by : (closed : Bool) → is_closed class ≡ closed
        → OutcomeFits classes (if closed then Err incorrect_method_call else makes objects class (empty_of (kind_in (order classes class)))
        (λ (object : ℕ). a.Begin (b.New object)))
    by true same = tt
    by false same =
        makes-fits classes objects class (empty_of (kind_in (order classes class))) (λ (object : ℕ). a.Begin (b.New object))
        (subst (λ (kind : Kind). IsFitting classes class kind) (sym (empty-kind (kind_in (order classes class)))) (new-fitting classes class all is same)) fits
class-fits c.Id classes objects class args all is fits = on-fits classes (no_argument args) _ (λ none. fits)
class-fits c.Superclass classes objects class args all is fits = on-fits classes (no_argument args) _ (λ none. fits)

-- ---- String

string-fits : (method : OfString) (facts : Facts) (classes : List ClassDef) (objects : List Object) (target : Value) (args : Arguments) → Fits classes objects
    → OutcomeFits classes (string_answer method facts objects target args)
string-fits method facts classes objects target args fits =
    on-fits classes (texts_of (with_receiver (function_of method).receiver target args)) _ (λ texts.
    on-fits classes (of_function (function_value (function_of method).name texts facts)) _ (λ text. fits))

-- ---- Array

array-of-fits : (classes : List ClassDef) (objects : List Object) (items : List Value) → Fits classes objects
    → OutcomeFits classes (makes_array_of objects items)
array-of-fits classes objects items fits =
    if-fits classes (nat_le (length (map Some items)) most_places) _ _
    (makes-fits classes objects array_class (Places (map Some items)) (λ (array : ℕ). a.Value (Ref array)) (own-array classes) fits) tt

array-class-fits : (method : OfArrayClass) (classes : List ClassDef) (objects : List Object) (class : ℕ) (args : Arguments) → CanInstall classes
    → IsClass classes class → Contains (order classes class) array_class → Fits classes objects
    → OutcomeFits classes (array_class_answer method objects class args)
array-class-fits ac.New classes objects class args all is among fits =
    on-fits classes (size_alone args) _ (λ size.
    makes-fits classes objects class (Places (replicate size None)) (λ (array : ℕ). a.Begin (b.New array)) (array-fitting classes class all is among) fits)
array-class-fits ac.Of classes objects class args all is among fits =
    if-fits classes (nat_le (length (up_to_last args)) most_places) _ _
    (makes-fits classes objects class (Places (up_to_last args)) (λ (array : ℕ). a.Value (Ref array)) (array-fitting classes class all is among) fits) tt

array-fits : (method : OfArray) (classes : List ClassDef) (objects : List Object) (array : ℕ) (args : Arguments) → CanInstall classes
    → IsOfKind objects array k.Array → Fits classes objects → OutcomeFits classes (array_answer method objects array args)
array-fits ar.At classes objects array args all kind fits = on-fits classes (index_alone args) _ (λ i. fits)
array-fits ar.Put classes objects array args all kind fits =
    on-fits classes (value_and_index args) _ (λ put.
    fits-with classes objects array (Places (with_item (places_at objects array) (put.1 - 1) put.0)) (sym kind.1) fits)
array-fits ar.Append classes objects array args all kind fits =
    on-fits classes (value_alone args) _ (λ value. if-fits classes (nat_lt (length (places_at objects array)) most_places) _ _
    (fits-with classes objects array (Places (with_item (places_at objects array) (length (places_at objects array)) value)) (sym kind.1) fits) tt)
array-fits ar.Remove classes objects array args all kind fits =
    on-fits classes (index_alone args) _ (λ i.
    fits-with classes objects array (Places (without_item (places_at objects array) (i - 1))) (sym kind.1) fits)
array-fits ar.Hasindex classes objects array args all kind fits = on-fits classes (index_alone args) _ (λ i. fits)
array-fits ar.Items classes objects array args all kind fits = on-fits classes (no_argument args) _ (λ none. fits)
array-fits ar.Size classes objects array args all kind fits = on-fits classes (no_argument args) _ (λ none. fits)
array-fits ar.Makearray classes objects array args all kind fits =
    on-fits classes (no_argument args) _ (λ none. array-of-fits classes objects (items_of (places_at objects array)) fits)

-- ---- Queue

queue-fits : (method : OfQueue) (classes : List ClassDef) (objects : List Object) (queue : ℕ) (args : Arguments) → CanInstall classes
    → IsOfKind objects queue k.Queue → Fits classes objects → OutcomeFits classes (queue_answer method objects queue args)
queue-fits q.Queue classes objects queue args all kind fits =
    on-fits classes (value_alone args) _ (λ value. fits-with classes objects queue (Line (items_at objects queue ++ value ∷ [])) (sym kind.1) fits)
queue-fits q.Push classes objects queue args all kind fits =
    on-fits classes (value_alone args) _ (λ value. fits-with classes objects queue (Line (value ∷ items_at objects queue)) (sym kind.1) fits)
queue-fits q.Pull classes objects queue args all kind fits =
    on-fits classes (no_argument args) _ (λ none. fits-with classes objects queue (Line (drop 1 (items_at objects queue))) (sym kind.1) fits)
queue-fits q.Peek classes objects queue args all kind fits = on-fits classes (no_argument args) _ (λ none. fits)
queue-fits q.Items classes objects queue args all kind fits = on-fits classes (no_argument args) _ (λ none. fits)
queue-fits q.At classes objects queue args all kind fits = on-fits classes (index_alone args) _ (λ i. fits)
queue-fits q.Makearray classes objects queue args all kind fits =
    on-fits classes (no_argument args) _ (λ none. array-of-fits classes objects (items_at objects queue) fits)

-- ---- Directory

entry-fits : (classes : List ClassDef) (objects : List Object) (directory : ℕ) (name : List ℕ) (put : Option (List ℕ)) (args : Arguments)
    → IsOfKind objects directory k.Directory → Fits classes objects → OutcomeFits classes (entry_answer objects directory name put args)
entry-fits classes objects directory name None [] kind fits = fits
entry-fits classes objects directory name None (argument ∷ args) kind fits = tt
entry-fits classes objects directory name (Some put) [] kind fits = tt
entry-fits classes objects directory name (Some put) (None ∷ args) kind fits = tt
entry-fits classes objects directory name (Some put) (Some value ∷ []) kind fits =
    fits-with classes objects directory (Names (with_entry (entries_at objects directory) put value)) (sym kind.1) fits
entry-fits classes objects directory name (Some put) (Some value ∷ (argument ∷ args)) kind fits = tt

directory-fits : (method : OfDirectory) (classes : List ClassDef) (objects : List Object) (directory : ℕ) (args : Arguments) → CanInstall classes
    → IsOfKind objects directory k.Directory → Fits classes objects → OutcomeFits classes (directory_answer method objects directory args)
directory-fits d.At classes objects directory args all kind fits = on-fits classes (name_alone args) _ (λ name. fits)
directory-fits d.Put classes objects directory args all kind fits =
    on-fits classes (value_and_name args) _ (λ put.
    fits-with classes objects directory (Names (with_entry (entries_at objects directory) put.1 put.0)) (sym kind.1) fits)
directory-fits d.Remove classes objects directory args all kind fits =
    on-fits classes (name_alone args) _ (λ name.
    fits-with classes objects directory (Names (without_name (entries_at objects directory) name)) (sym kind.1) fits)
directory-fits d.Hasindex classes objects directory args all kind fits = on-fits classes (name_alone args) _ (λ name. fits)
directory-fits d.Items classes objects directory args all kind fits = on-fits classes (no_argument args) _ (λ none. fits)
directory-fits d.Makearray classes objects directory args all kind fits =
    on-fits classes (no_argument args) _ (λ none. array-of-fits classes objects (map name_value (entries_at objects directory)) fits)
directory-fits d.Unknown classes objects directory args all kind fits =
    on-fits classes (two_values args) _ (λ both. on-fits classes (name_of both.0) _ (λ name. on-fits classes (places_in objects both.1) _ (λ places.
    entry-fits classes objects directory (str_to_ascii_uppercase name) (name_to_put (str_to_ascii_uppercase name)) places kind fits)))

-- ---- all of them

-- a method of a class's own side stands in the order of that class
own-side : (classes : List ℕ) → Contains (sides true classes ++ sides false (class_class ∷ object_class ∷ [])) (record { class = array_class; class_side = true })
    → Contains classes array_class
own-side [] among =
    let no : true ≡ false = (among-sides false (class_class ∷ object_class ∷ []) (record { class = array_class; class_side = true }) among).1 in absurd cc
own-side (class ∷ classes) (zero, within, is) = (zero, omega arith, ap (λ (s : Scope). s.class) is)
own-side (class ∷ classes) (suc place, within, is) =
    let later : Contains classes array_class = own-side classes (place, omega (arith, within), is) in
    (suc later.0, omega (arith, later.1), later.2)

order-by : (classes : List ClassDef) (objects : List Object) (object : ℕ) (is : Bool)
    → Contains (scopes_by classes objects object is) (record { class = array_class; class_side = true }) → Contains (order classes object) array_class
order-by classes objects object true among = own-side (order classes object) among
order-by classes objects object false among =
    let no : true ≡ false =
    (among-sides false (order classes (class_at objects object)) (record { class = array_class; class_side = true }) among).1 in absurd cc

array-order : (classes : List ClassDef) (objects : List Object) (target : Value)
    → Contains (target_scopes classes objects target) (record { class = array_class; class_side = true }) → Contains (order classes (object_in target)) array_class
array-order classes objects (Str text) among =
    let no : true ≡ false = (among-sides false (order classes string_class) (record { class = array_class; class_side = true }) among).1 in absurd cc
array-order classes objects (Ref object) among = order-by classes objects object (is_class objects object) among

answer-fits : (method : Method) (facts : Facts) (classes : List ClassDef) (objects : List Object) (target : Value) (id : ℕ) (args : Arguments)
    → CanInstall classes → Fits classes objects → IsThere objects target → IsReached classes objects target id → method_numbered id ≡ Some method
    → OutcomeFits classes (answer_of method facts classes objects target args)
answer-fits (m.Object method) facts classes objects target id args all fits there reached is = object-fits method classes objects target args fits
answer-fits (m.Class method) facts classes objects target id args all fits there reached is =
    class-fits method classes objects (object_in target) args all (class-receiver classes objects target id method is reached there fits) fits
answer-fits (m.String method) facts classes objects target id args all fits there reached is = string-fits method facts classes objects target args fits
answer-fits (m.ArrayClass ac.New) facts classes objects target id args all fits there reached is =
    let scope = scope-reached classes objects target id (m.ArrayClass ac.New) is reached in
    array-class-fits ac.New classes objects (object_in target) args all (array-target classes objects target there fits scope)
    (array-order classes objects target scope) fits
answer-fits (m.ArrayClass ac.Of) facts classes objects target id args all fits there reached is =
    let scope = scope-reached classes objects target id (m.ArrayClass ac.Of) is reached in
    array-class-fits ac.Of classes objects (object_in target) args all (array-target classes objects target there fits scope)
    (array-order classes objects target scope) fits
answer-fits (m.Array method) facts classes objects target id args all fits there reached is =
    array-fits method classes objects (object_in target) args all (array-receiver classes objects target id method is reached there fits) fits
answer-fits (m.Queue method) facts classes objects target id args all fits there reached is =
    queue-fits method classes objects (object_in target) args all (queue-receiver classes objects target id method is reached there fits) fits
answer-fits (m.Directory method) facts classes objects target id args all fits there reached is =
    directory-fits method classes objects (object_in target) args all (directory-receiver classes objects target id method is reached there fits) fits

numbered-fits : (facts : Facts) (classes : List ClassDef) (objects : List Object) (target : Value) (id : ℕ) (args : Arguments) (method : Option Method)
    → CanInstall classes → Fits classes objects → IsThere objects target → IsReached classes objects target id → method_numbered id ≡ method
    → OutcomeFits classes (option_map_or (λ (one : Method). answer_of one facts classes objects target args) method (Err incorrect_method_call))
numbered-fits facts classes objects target id args None all fits there reached is = tt
numbered-fits facts classes objects target id args (Some method) all fits there reached is =
    answer-fits method facts classes objects target id args all fits there reached is

pub native-fits : (facts : Facts) (classes : List ClassDef) (objects : List Object) (target : Value) (id : ℕ) (args : Arguments)
    → CanInstall classes → Fits classes objects → IsThere objects target → IsReached classes objects target id
    → OutcomeFits classes (option_map_or (λ (one : Method). answer_of one facts classes objects target args) (method_numbered id) (Err incorrect_method_call))
native-fits facts classes objects target id args all fits there reached =
    numbered-fits facts classes objects target id args (method_numbered id) all fits there reached refl
