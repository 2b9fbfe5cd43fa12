-- The functions that tell of the frame that calls them, of the queue and of the source.
use Rattle.std.specs.Prelude.{ℕ, ◌-◌, ◌==◌, Bool, not, is_some, if◌then◌else◌, decimal, List, [], ◌∷◌, ◌++◌, length, reverse, slice_get, slice_index_or, codes, Option, Some, None, option_map, ok_or, unwrap_or, Result, Ok, Err}
use Rattle.std.specs.Option.{option_map_or}
use Rattle.std.specs.Char.{to_ascii_uppercase}
use Rattle.rx_answers.specs.Answers.{at_place}
use Rattle.rx_convfn.specs.Kinds.{truth}
use Rattle.rx_tree.specs.declared.activity.Caught.{Caught}
use Rattle.rx_tree.specs.declared.value.Value.{Value}
use Rattle.rx_tree.specs.declared.value.Value.TheVariants.{Str, Ref}
use Rattle.rx_builtin.specs.declared.argument.Kind.TheVariants.{Count, Byte}
use Rattle.rx_builtin.specs.declared.facts.Facts.{Facts}
use Rattle.rx_builtin.specs.declared.frame.OfFrame.{OfFrame}
use Rattle.rx_builtin.specs.declared.frame.OfFrame.TheVariants as f
use Rattle.rx_builtin.specs.Arguments.{Arguments, number, byte, fits}
use Rattle.rx_builtin.specs.Rows.{Row, row}

-- ---- ARG

-- arguments without those in front that are omitted
abbrev pub without_omitted : List (Option Value) → List (Option Value)
without_omitted [] = []
without_omitted (None ∷ arguments) = without_omitted arguments
without_omitted (Some value ∷ arguments) = Some value ∷ arguments

-- how many arguments there are up to the last one that is given: the same, read from the end
abbrev pub given_count : List (Option Value) → ℕ
given_count arguments = length (without_omitted (reverse arguments))

-- argument n, if it is given
abbrev pub nth : ℕ → List (Option Value) → Option Value
nth n arguments = slice_index_or arguments (n - 1) None

-- the text of an argument: the text itself, or what an object is told as; empty where it is omitted
abbrev pub argument_text : Option Value → List ℕ
argument_text None = []
argument_text (Some (Str text)) = text
argument_text (Some (Ref object)) = codes "object " ++ decimal object

-- whether an argument is as an option asks: given (E) or omitted (O); none for another letter
abbrev pub is_as_asked : ℕ → Bool → Option Bool
is_as_asked letter is_given =
    if to_ascii_uppercase letter == 0x45 then Some is_given
    else if to_ascii_uppercase letter == 0x4F then Some (not is_given)
    else None

-- the count without arguments; argument n; with an option, for which n is needed, 1 or 0
abbrev pub arg_text : Option ℕ → Option ℕ → List (Option Value) → Result (List ℕ) ℕ
arg_text None None arguments = Ok (decimal (given_count arguments))
arg_text None (Some letter) arguments = Err 40
arg_text (Some n) None arguments = at_place n (Ok (argument_text (nth n arguments)))
arg_text (Some n) (Some letter) arguments =
    at_place n (ok_or (option_map truth (is_as_asked letter (is_some (nth n arguments)))) 40)

-- ---- CONDITION

-- by which clause a condition was trapped
abbrev pub instruction_of : Caught → List ℕ
instruction_of caught = if caught.by_call then codes "CALL" else codes "SIGNAL"

-- the name (C) or the detail (D) of the condition that was trapped last, or by which clause that was (I); empty where none
-- was; another letter raises 40
abbrev pub condition_text : ℕ → Option Caught → Result (List ℕ) ℕ
condition_text letter caught =
    if to_ascii_uppercase letter == 0x43 then Ok (option_map_or (λ (c : Caught). c.name) caught [])
    else if to_ascii_uppercase letter == 0x44 then Ok (option_map_or (λ (c : Caught). c.detail) caught [])
    else if to_ascii_uppercase letter == 0x49 then Ok (option_map_or instruction_of caught [])
    else Err 40

-- ---- SOURCELINE

-- how many lines the source has; line n, where 40 is raised if there is none
abbrev pub sourceline_text : Option ℕ → List (List ℕ) → Result (List ℕ) ℕ
sourceline_text None lines = Ok (decimal (length lines))
sourceline_text (Some n) lines = at_place n (ok_or (slice_get lines (n - 1)) 40)

-- ---- the table

abbrev pub of_frame : OfFrame → Row (Arguments → Facts → Result (List ℕ) ℕ)
of_frame f.Arg = row (codes "ARG") 0 (Count ∷ Byte ∷ []) (λ a facts. arg_text (number 1 a) (byte 2 a) facts.arguments)
of_frame f.Condition =
    row (codes "CONDITION") 0 (Byte ∷ [])
    (λ a facts. condition_text (unwrap_or (byte 1 a) 0x49) facts.condition)
of_frame f.Digits = row (codes "DIGITS") 0 [] (λ a facts. Ok (decimal facts.digits))
of_frame f.Queued = row (codes "QUEUED") 0 [] (λ a facts. Ok (decimal facts.queued))
of_frame f.Sourceline = row (codes "SOURCELINE") 0 (Count ∷ []) (λ a facts. sourceline_text (number 1 a) facts.lines)

-- ---- the object that ARG gives in place of a text

-- the object that an argument is
abbrev pub object_of : Option Value → Option ℕ
object_of (Some (Ref object)) = Some object
object_of _ = None

-- the object that ARG(n) gives, where argument n is one
abbrev pub argument_object : Option ℕ → Option ℕ → List (Option Value) → Option ℕ
argument_object (Some n) None arguments = if n == 0 then None else object_of (nth n arguments)
argument_object _ _ arguments = None

-- that of a call of ARG; none where its arguments don't fit
abbrev pub arg_object : Arguments → Facts → Option ℕ
arg_object args facts =
    if fits 0 (of_frame f.Arg).signature.kinds args then argument_object (number 1 args) (byte 2 args) facts.arguments
    else None
