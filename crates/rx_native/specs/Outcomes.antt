-- What a native method comes to: what its sender has then, with the objects afterwards, or the error that is raised.
use Rattle.std.specs.Prelude.{ℕ, ◌+◌, ◌==◌, Bool, decimal, if◌then◌else◌, List, [], ◌∷◌, ◌++◌, length, codes, Option, unwrap_or, Result, Ok, Err}
use Rattle.rx_tree.specs.Object.{Object, Contents}
use Rattle.rx_tree.specs.declared.value.Value.{Value}
use Rattle.rx_tree.specs.declared.value.Value.TheVariants.{Str, Ref}
use Rattle.rx_heap.specs.Objects.{most_objects}
use Rattle.rx_heap.specs.declared.heap.HeapRefused.{HeapRefused}
use Rattle.rx_heap.specs.declared.heap.HeapRefused.TheVariants as h
use Rattle.rx_native.specs.declared.answer.NativeRefused.{NativeRefused}
use Rattle.rx_native.specs.declared.answer.NativeRefused.TheVariants as r
use Rattle.rx_native.specs.declared.answer.NativeAnswer.{NativeAnswer}
use Rattle.rx_native.specs.declared.answer.NativeAnswer.TheVariants as a

-- ---- errors

-- a string would be too long, or there would be too many objects
abbrev pub resources_exhausted : ℕ
resources_exhausted = 5

-- an argument that has to be a class or an Array is none
abbrev pub invalid_argument : ℕ
invalid_argument = 88

-- any other wrong argument
abbrev pub incorrect_method_call : ℕ
incorrect_method_call = 93

-- ---- outcomes

abbrev pub Outcome : Type 0
Outcome = Result (NativeAnswer × List Object) ℕ

-- what comes next of something that was read, unless that raised an error
abbrev pub on : {A B : Type 0} → Result A ℕ → (A → Result B ℕ) → Result B ℕ
on (Ok read) next = next read
on (Err number) next = Err number

-- a value, and nothing has changed
abbrev pub gives : List Object → Value → Outcome
gives objects value = Ok (a.Value value, objects)

-- no value, and these are the objects afterwards
abbrev pub changes : List Object → Outcome
changes objects = Ok (a.Nothing, objects)

-- the number of a new object
abbrev pub next_number : List Object → ℕ
next_number objects = length objects + 1

-- the objects with one more
abbrev pub with_object : List Object → ℕ → Contents → List Object
with_object objects class contents = objects ++ record { class = class; contents = contents } ∷ []

-- why no object is made, as the refusal of a method
abbrev pub of_heap : HeapRefused → NativeRefused
of_heap h.Full = r.Raised resources_exhausted
of_heap h.OutOfMemory = r.OutOfMemory

-- an object is made: 5 is raised where there are as many as there may be
abbrev pub makes : List Object → ℕ → Contents → (ℕ → NativeAnswer) → Outcome
makes objects class contents answer =
    if length objects == most_objects then Err resources_exhausted
    else Ok (answer (next_number objects), with_object objects class contents)

-- ---- values

-- the object `.nil`
abbrev pub nil : Value
nil = Ref 1

abbrev pub or_nil : Option Value → Value
or_nil item = unwrap_or item nil

-- a number as a string: its decimal digits
abbrev pub number_value : ℕ → Value
number_value number = Str (decimal number)

-- a logical value as a string
abbrev pub truth_value : Bool → Value
truth_value holds = Str (if holds then codes "1" else codes "0")
