-- PARSE, ARG and PULL.
use Rattle.std.specs.Prelude.{ℕ, ◌+◌, pos, negsuc, Bool, true, if◌then◌else◌, List, [], ◌∷◌, ◌++◌, drop, map, flat_map, slice_get, Option, None, Some, option_map, Result, Ok, Err}
use Rattle.std.specs.Str.{str_to_ascii_uppercase}
use Rattle.rx_tree.specs.declared.expr.Expr.TheVariants.{Name as Variable}
use Rattle.rx_tree.specs.declared.name.Derived.{Derived}
use Rattle.rx_tree.specs.declared.name.Name.{Name}
use Rattle.rx_tree.specs.declared.value.Value.{Value}
use Rattle.rx_tree.specs.declared.value.Value.TheVariants.{Str}
use Rattle.rx_whole.specs.declared.reading.Numeral.{Numeral}
use Rattle.rx_whole.specs.declared.reading.Numeral.TheVariants.{Whole, Long, NoNumber}
use Rattle.rx_whole.specs.Number.{num}
use Rattle.rx_whole.specs.Numeral.{numeral_of}
use Rattle.rx_vars.specs.Variables.{Variables}
use Rattle.rx_pools.specs.Pools.{Pools}
use Rattle.rx_template.specs.declared.template.TPart.{TPart}
use Rattle.rx_template.specs.declared.template.TPart.TheVariants as p
use Rattle.rx_template.specs.Pieces.{pieces}
use Rattle.rx_clause_tree.specs.declared.template.Distance.{Distance}
use Rattle.rx_clause_tree.specs.declared.template.Distance.TheVariants as d
use Rattle.rx_clause_tree.specs.declared.template.Parse.{Parse}
use Rattle.rx_clause_tree.specs.declared.template.ParseFrom.{ParseFrom}
use Rattle.rx_clause_tree.specs.declared.template.ParseFrom.TheVariants as f
use Rattle.rx_clause_tree.specs.declared.template.Template.{Template}
use Rattle.rx_clause_tree.specs.declared.template.TemplatePart.{TemplatePart}
use Rattle.rx_clause_tree.specs.declared.template.TemplatePart.TheVariants as t
use Rattle.rx_names.specs.Deriving.{derive, spelled, text_of as text_or}
use Rattle.rx_names.specs.Homes.{value, variables_at}
use Rattle.rx_native.specs.Outcomes.{on, resources_exhausted}
use Rattle.rx_eval.specs.Places.{Trees}
use Rattle.rx_machine.specs.Refusals.{bad_arithmetic, invalid_whole_number}
use Rattle.rx_machine.specs.Values.{text_of}
use Rattle.rx_machine.specs.World.{World, Stepped, Done, WantsLine}
use Rattle.rx_machine.specs.Turns.{Turn, line}
use Rattle.rx_machine.specs.Raising.{raised}
use Rattle.rx_machine.specs.Assigning.{assigns, is_too_long}

-- ---- templates, once the values in them are known

abbrev pub text_at : List Variables → Pools → Derived → Result (List ℕ) ℕ
text_at frames pools name =
    if is_too_long name then Err resources_exhausted else Ok (text_or (value frames pools name) (spelled name))

-- The text of `(v)`: its value, in which an object counts as `object n`, or its own name where it has none.
abbrev pub variable_text : List Variables → Pools → Name → Result (List ℕ) ℕ
variable_text frames pools name = text_at frames pools (derive frames pools name)

abbrev pub distance_text : List Variables → Pools → Distance → Result (List ℕ) ℕ
distance_text frames pools (d.Number text) = Ok text
distance_text frames pools (d.Value name) = variable_text frames pools name

-- A position is a whole number that isn't negative.
abbrev pub position_of : Numeral → Result ℕ ℕ
position_of NoNumber = Err invalid_whole_number
position_of Long = Err bad_arithmetic
position_of (Whole (pos number)) = Ok number
position_of (Whole (negsuc number)) = Err invalid_whole_number

abbrev pub distance : List Variables → Pools → Distance → Result ℕ ℕ
distance frames pools one = on (distance_text frames pools one) (λ text. position_of (numeral_of (num text)))

-- a part, where a target would have this number
abbrev pub bound_part : List Variables → Pools → ℕ → TemplatePart → Result TPart ℕ
bound_part frames pools number (t.Target name) = Ok (p.Target number)
bound_part frames pools number t.Period = Ok p.Period
bound_part frames pools number (t.Literal text) = Ok (p.Literal text)
bound_part frames pools number (t.Pattern name) = on (variable_text frames pools name) (λ text. Ok (p.Literal text))
bound_part frames pools number (t.At one) = on (distance frames pools one) (λ place. Ok (p.At place))
bound_part frames pools number (t.Forward one) = on (distance frames pools one) (λ count. Ok (p.Forward count))
bound_part frames pools number (t.Backward one) = on (distance frames pools one) (λ count. Ok (p.Backward count))

abbrev pub number_behind : ℕ → TemplatePart → ℕ
number_behind number (t.Target name) = number + 1
number_behind number _ = number

-- The parts of a template, whose targets are numbered from this number on, or the first error in it.
abbrev pub bound_from : List Variables → Pools → ℕ → List TemplatePart → Result (List TPart) ℕ
bound_from frames pools number [] = Ok []
bound_from frames pools number (part ∷ parts) =
    on (bound_part frames pools number part) (λ one. on (bound_from frames pools (number_behind number part) parts) (λ others. Ok (one ∷ others)))

-- All templates, each with its parts, or the first error in them.
abbrev pub bound_all : List Variables → Pools → List Template → Result (List (Template × List TPart)) ℕ
bound_all frames pools [] = Ok []
bound_all frames pools (template ∷ templates) =
    on (bound_from frames pools 0 template.parts) (λ parts. on (bound_all frames pools templates) (λ others. Ok ((template, parts) ∷ others)))

-- ---- pieces

abbrev pub target_of : TemplatePart → List Name
target_of (t.Target name) = name ∷ []
target_of _ = []

abbrev pub targets : List TemplatePart → List Name
targets parts = flat_map target_of parts

abbrev pub row_for : List ℕ → Option Name → List (Name × Option Value)
row_for bytes None = []
row_for bytes (Some name) = (name, Some (Str bytes)) ∷ []

abbrev pub row : List Name → ℕ × List ℕ → List (Name × Option Value)
row names piece = row_for piece.1 (slice_get names piece.0)

-- what the targets of a template get of a text
abbrev pub rows : List TemplatePart → List TPart → List ℕ → List (Name × Option Value)
rows parts bound text = flat_map (row (targets parts)) (pieces bound text)

abbrev pub first_text : List (List ℕ) → List ℕ
first_text [] = []
first_text (text ∷ texts) = text

-- Each template cuts the next text, or an empty one where there are no more.
abbrev pub all_rows : List (Template × List TPart) → List (List ℕ) → List (Name × Option Value)
all_rows [] texts = []
all_rows (one ∷ others) texts = rows one.0.parts one.1 (first_text texts) ++ all_rows others (drop 1 texts)

-- ---- texts

-- an argument that is omitted is empty, and an object counts as `object n`
abbrev pub argument_text : Option Value → List ℕ
argument_text value = text_or value []

abbrev pub from_input : World → List (List ℕ) → Option (List ℕ × World)
from_input w [] = if w.ended then Some ([], w) else None
from_input w (line ∷ lines) = Some (line, record w { rest = lines })

-- A line of the input, with the world afterwards; an empty one at its end; none where the line isn't there yet.
abbrev pub input_line : World → Option (List ℕ × World)
input_line w = from_input w w.rest

abbrev pub from_queue : World → List (List ℕ) → Option (List ℕ × World)
from_queue w [] = input_line w
from_queue w (line ∷ lines) = Some (line, record w { queue = lines })

-- The front of the queue, or where that is empty a line of the input.
abbrev pub pulled_line : World → Option (List ℕ × World)
pulled_line w = from_queue w w.queue

abbrev pub alone : List ℕ × World → List (List ℕ) × World
alone taken = (taken.0 ∷ [], taken.1)

abbrev pub texts_from : Turn → List Value → ParseFrom → Option (List (List ℕ) × World)
texts_from turn values f.Arg = Some (map argument_text turn.frame.arguments, turn.world)
texts_from turn values f.Pull = option_map alone (pulled_line turn.world)
texts_from turn values f.LineIn = option_map alone (input_line turn.world)
texts_from turn values (f.Var name) = Some (text_of values ∷ [], turn.world)
texts_from turn values (f.Value expr) = Some (text_of values ∷ [], turn.world)

-- ---- the clause

-- what it evaluates
abbrev pub trees_from : ParseFrom → Trees
trees_from f.Arg = []
trees_from f.Pull = []
trees_from f.LineIn = []
trees_from (f.Var name) = (Variable name, true) ∷ []
trees_from (f.Value expr) = (expr, true) ∷ []

abbrev pub in_case : Bool → List (List ℕ) → List (List ℕ)
in_case upper texts = if upper then map str_to_ascii_uppercase texts else texts

abbrev pub cuts : Turn → Bool → List (Template × List TPart) → Option (List (List ℕ) × World) → Stepped
cuts turn upper bound None = WantsLine
cuts turn upper bound (Some taken) = Done (assigns (record turn { world = taken.1 }) (all_rows bound (in_case upper taken.0)))

abbrev pub parses_bound : Turn → Parse → List Value → Result (List (Template × List TPart)) ℕ → Stepped
parses_bound turn parse values (Err number) = Done (raised turn.world turn.number number (line turn))
parses_bound turn parse values (Ok bound) = cuts turn parse.upper bound (texts_from turn values parse.from)

-- The values in the templates are taken first, before a line is; then the texts are cut, and the targets get their pieces in order.
abbrev pub parses : Turn → Parse → List Value → Stepped
parses turn parse values = parses_bound turn parse values (bound_all (variables_at turn.world.activities turn.number) turn.world.pools parse.templates)
