-- What the methods of Directory come to, by the number of the Directory. Its names are compared by their bytes.
use Rattle.std.specs.Prelude.{ℕ, ◌-◌, ◌==◌, is_some, if◌then◌else◌, List, [], ◌∷◌, length, map, take, slice_index_or, Option, Some, None, Result, Ok, Err}
use Rattle.std.specs.Str.{str_to_ascii_uppercase}
use Rattle.rx_tree.specs.Object.{Object, Names}
use Rattle.rx_tree.specs.declared.value.Value.{Value}
use Rattle.rx_tree.specs.declared.value.Value.TheVariants.{Str, Ref}
use Rattle.rx_vars.specs.Tables.{look_up, with_entry}
use Rattle.rx_heap.specs.declared.kind.Kind.{Kind}
use Rattle.rx_heap.specs.declared.kind.Kind.TheVariants as k
use Rattle.rx_heap.specs.Directories.{without_name}
use Rattle.rx_heap.specs.Objects.{entries_at, places_at, with_contents}
use Rattle.rx_native.specs.declared.answer.NativeAnswer.TheVariants as a
use Rattle.rx_native.specs.declared.directory.OfDirectory.{OfDirectory}
use Rattle.rx_native.specs.declared.directory.OfDirectory.TheVariants as m
use Rattle.rx_native.specs.Outcomes.{Outcome, incorrect_method_call, invalid_argument, on, gives, changes, or_nil, number_value, truth_value}
use Rattle.rx_native.specs.Arguments.{Arguments, no_argument, name_alone, name_of, two_values, value_and_name}
use Rattle.rx_native.specs.ArrayMethods.{makes_array_of}
use Rattle.rx_native.specs.Targets.{kind_at}

-- ---- messages without a method: `NAME` answers an entry, and `NAME=` puts one

-- the name in front of a `=` at the end
abbrev pub name_to_put : List ℕ → Option (List ℕ)
name_to_put name = if slice_index_or name (length name - 1) 0 == 0x3D then Some (take (length name - 1) name) else None

abbrev pub places_of_kind : Kind → List (Option Value) → Result (List (Option Value)) ℕ
places_of_kind k.Array places = Ok places
places_of_kind _ places = Err invalid_argument

-- the places of the Array that a value is
abbrev pub places_in : List Object → Value → Result (List (Option Value)) ℕ
places_in objects (Str text) = Err invalid_argument
places_in objects (Ref object) = places_of_kind (kind_at objects object) (places_at objects object)

-- what the message comes to, by the name that it puts, if it puts one, and its arguments
abbrev pub entry_answer : List Object → ℕ → List ℕ → Option (List ℕ) → Arguments → Outcome
entry_answer objects directory name None [] = gives objects (or_nil (look_up (entries_at objects directory) name))
entry_answer objects directory name (Some put) (Some value ∷ []) =
    changes (with_contents objects directory (Names (with_entry (entries_at objects directory) put value)))
entry_answer objects directory name _ _ = Err incorrect_method_call

-- ---- the methods

abbrev pub name_value : List ℕ × Value → Value
name_value entry = Str entry.0

abbrev pub directory_answer : OfDirectory → List Object → ℕ → Arguments → Outcome
directory_answer m.At objects directory args =
    on (name_alone args) (λ (name : List ℕ). gives objects (or_nil (look_up (entries_at objects directory) name)))
directory_answer m.Put objects directory args =
    on (value_and_name args) (λ (put : Value × List ℕ).
    changes (with_contents objects directory (Names (with_entry (entries_at objects directory) put.1 put.0))))
directory_answer m.Remove objects directory args =
    let entries = entries_at objects directory in
    on (name_alone args) (λ (name : List ℕ).
    Ok (a.Value (or_nil (look_up entries name)), with_contents objects directory (Names (without_name entries name))))
directory_answer m.Hasindex objects directory args =
    on (name_alone args) (λ (name : List ℕ). gives objects (truth_value (is_some (look_up (entries_at objects directory) name))))
directory_answer m.Items objects directory args =
    on (no_argument args) (λ (none : Unit {0}). gives objects (number_value (length (entries_at objects directory))))
-- the names in the order in which they were put
directory_answer m.Makearray objects directory args =
    on (no_argument args) (λ (none : Unit {0}). makes_array_of objects (map name_value (entries_at objects directory)))
-- its arguments are a message's name, and the Array of that message's arguments
directory_answer m.Unknown objects directory args =
    on (two_values args) (λ (both : Value × Value). on (name_of both.0) (λ (name : List ℕ). on (places_in objects both.1) (λ (places : List (Option Value)).
    let upper = str_to_ascii_uppercase name in
    entry_answer objects directory upper (name_to_put upper) places)))
