-- The arguments of native methods: what each form takes. A needed one that is missing, one more than the form names, and one that
-- isn't what it has to be are wrong, and raise 93.
use Rattle.std.specs.Prelude.{ℕ, nat_le, ◌&&◌, if◌then◌else◌, List, [], ◌∷◌, Option, Some, None, Result, Ok, Err}
use Rattle.rx_tree.specs.declared.value.Value.{Value}
use Rattle.rx_tree.specs.declared.value.Value.TheVariants.{Str, Ref}
use Rattle.rx_builtin.specs.Arguments.{count_of}
use Rattle.rx_heap.specs.Arrays.{most_places}
use Rattle.rx_native.specs.Outcomes.{incorrect_method_call, on}

-- one that is omitted has no value
abbrev pub Arguments : Type 0
Arguments = List (Option Value)

-- ---- what an argument has to be

-- a name: a string
abbrev pub name_of : Value → Result (List ℕ) ℕ
name_of (Str text) = Ok text
name_of (Ref object) = Err incorrect_method_call

-- a number that is at least one and at most another
abbrev pub count_within : ℕ → ℕ → Option ℕ → Result ℕ ℕ
count_within least most None = Err incorrect_method_call
count_within least most (Some count) = if nat_le least count && nat_le count most then Ok count else Err incorrect_method_call

abbrev pub number_within : ℕ → ℕ → Value → Result ℕ ℕ
number_within least most (Str text) = count_within least most (count_of text)
number_within least most (Ref object) = Err incorrect_method_call

-- an index: the text of a number from 1 to 1,048,576
abbrev pub index_of : Value → Result ℕ ℕ
index_of value = number_within 1 most_places value

-- a size: the text of a number from 0 to 1,048,576
abbrev pub size_of : Value → Result ℕ ℕ
size_of value = number_within 0 most_places value

-- ---- forms

-- no argument
abbrev pub no_argument : Arguments → Result (Unit {0}) ℕ
no_argument [] = Ok tt
no_argument (argument ∷ args) = Err incorrect_method_call

-- a value
abbrev pub value_alone : Arguments → Result Value ℕ
value_alone (Some value ∷ []) = Ok value
value_alone _ = Err incorrect_method_call

-- two values
abbrev pub two_values : Arguments → Result (Value × Value) ℕ
two_values (Some first ∷ Some second ∷ []) = Ok (first, second)
two_values _ = Err incorrect_method_call

-- an index
abbrev pub index_alone : Arguments → Result ℕ ℕ
index_alone args = on (value_alone args) index_of

-- a name
abbrev pub name_alone : Arguments → Result (List ℕ) ℕ
name_alone args = on (value_alone args) name_of

-- a value, and an index
abbrev pub value_and_index : Arguments → Result (Value × ℕ) ℕ
value_and_index args = on (two_values args) (λ (both : Value × Value). on (index_of both.1) (λ (i : ℕ). Ok (both.0, i)))

-- a value, and a name
abbrev pub value_and_name : Arguments → Result (Value × List ℕ) ℕ
value_and_name args = on (two_values args) (λ (both : Value × Value). on (name_of both.1) (λ (name : List ℕ). Ok (both.0, name)))

-- a size, which may be left out: it is 0 then
abbrev pub size_alone : Arguments → Result ℕ ℕ
size_alone [] = Ok 0
size_alone (None ∷ []) = Ok 0
size_alone (Some size ∷ []) = size_of size
size_alone _ = Err incorrect_method_call

-- a name, and any arguments behind it
abbrev pub name_and_rest : Arguments → Result (List ℕ × Arguments) ℕ
name_and_rest (Some name ∷ rest) = on (name_of name) (λ (n : List ℕ). Ok (n, rest))
name_and_rest _ = Err incorrect_method_call
