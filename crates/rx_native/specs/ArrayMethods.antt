-- What the methods of Array come to, by the number of the Array, and those of the class Array itself.
use Rattle.std.specs.Prelude.{ℕ, ◌+◌, ◌-◌, nat_le, nat_lt, is_some, if◌then◌else◌, List, length, map, replicate, take, Option, Some, None, Err, Ok}
use Rattle.std.specs.List.{filter_map}
use Rattle.rx_tree.specs.Object.{Object, Places}
use Rattle.rx_tree.specs.declared.value.Value.{Value}
use Rattle.rx_tree.specs.declared.value.Value.TheVariants.{Ref}
use Rattle.rx_builtin.specs.Frames.{given_count}
use Rattle.rx_classes.specs.Natives.{array_class}
use Rattle.rx_heap.specs.Arrays.{item_count, item_in, most_places, with_item, without_item}
use Rattle.rx_heap.specs.Objects.{places_at, with_contents}
use Rattle.rx_native.specs.declared.answer.NativeAnswer.{NativeAnswer}
use Rattle.rx_native.specs.declared.answer.NativeAnswer.TheVariants as a
use Rattle.rx_native.specs.declared.answer.Began.TheVariants as b
use Rattle.rx_native.specs.declared.array.OfArray.{OfArray}
use Rattle.rx_native.specs.declared.array.OfArray.TheVariants as m
use Rattle.rx_native.specs.declared.array.OfArrayClass.{OfArrayClass}
use Rattle.rx_native.specs.declared.array.OfArrayClass.TheVariants as c
use Rattle.rx_native.specs.Outcomes.{Outcome, incorrect_method_call, on, gives, changes, makes, or_nil, number_value, truth_value}
use Rattle.rx_native.specs.Arguments.{Arguments, no_argument, value_alone, index_alone, value_and_index, size_alone}

-- ---- the class

-- arguments up to the last one that is given
abbrev pub up_to_last : Arguments → Arguments
up_to_last args = take (given_count args) args

-- An Array of a class is made: 93 is raised where an index would be too great.
abbrev pub makes_array : List Object → ℕ → List (Option Value) → (ℕ → NativeAnswer) → Outcome
makes_array objects class places answer =
    if nat_le (length places) most_places then makes objects class (Places places) answer else Err incorrect_method_call

abbrev pub array_class_answer : OfArrayClass → List Object → ℕ → Arguments → Outcome
-- INIT is sent to the new Array without arguments.
array_class_answer c.New objects class args =
    on (size_alone args) (λ (size : ℕ). makes objects class (Places (replicate size None)) (λ (array : ℕ). a.Begin (b.New array)))
-- Each argument that is given is put at its index. No INIT is sent.
array_class_answer c.Of objects class args = makes_array objects class (up_to_last args) (λ (array : ℕ). a.Value (Ref array))

-- ---- its objects

-- the items of places, without the empty ones
abbrev pub items_of : List (Option Value) → List Value
items_of places = filter_map (λ (place : Option Value). place) places

-- a new Array of these items, without gaps
abbrev pub makes_array_of : List Object → List Value → Outcome
makes_array_of objects items = makes_array objects array_class (map Some items) (λ (array : ℕ). a.Value (Ref array))

abbrev pub array_answer : OfArray → List Object → ℕ → Arguments → Outcome
array_answer m.At objects array args =
    on (index_alone args) (λ (i : ℕ). gives objects (or_nil (item_in (places_at objects array) (i - 1))))
array_answer m.Put objects array args =
    on (value_and_index args) (λ (put : Value × ℕ).
    changes (with_contents objects array (Places (with_item (places_at objects array) (put.1 - 1) put.0))))
-- behind the size, and the answer is that index
array_answer m.Append objects array args =
    let places = places_at objects array in
    on (value_alone args) (λ (value : Value).
    if nat_lt (length places) most_places
    then Ok (a.Value (number_value (length places + 1)), with_contents objects array (Places (with_item places (length places) value)))
    else Err incorrect_method_call)
array_answer m.Remove objects array args =
    let places = places_at objects array in
    on (index_alone args) (λ (i : ℕ).
    Ok (a.Value (or_nil (item_in places (i - 1))), with_contents objects array (Places (without_item places (i - 1)))))
array_answer m.Hasindex objects array args =
    on (index_alone args) (λ (i : ℕ). gives objects (truth_value (is_some (item_in (places_at objects array) (i - 1)))))
array_answer m.Items objects array args =
    on (no_argument args) (λ (none : Unit {0}). gives objects (number_value (item_count (places_at objects array))))
array_answer m.Size objects array args =
    on (no_argument args) (λ (none : Unit {0}). gives objects (number_value (length (places_at objects array))))
array_answer m.Makearray objects array args =
    on (no_argument args) (λ (none : Unit {0}). makes_array_of objects (items_of (places_at objects array)))
