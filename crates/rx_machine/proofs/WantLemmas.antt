-- A step that wants a line has none, and with the next one, or the end of the input, it is done.
use Rattle.std.proofs.Common.{◌≡◌, ℕ, Bool, true, false, List, [], ◌∷◌, ◌++◌, Option, None, Some, Result, Ok, Err, refl, ap, subst}
use Rattle.std.specs.Prelude.{if◌then◌else◌, option_map}
use Rattle.rx_tree.specs.declared.value.Value.{Value}
use Rattle.rx_clause_tree.specs.declared.simple.Simple.{Simple as OneClause}
use Rattle.rx_clause_tree.specs.declared.simple.Simple.TheVariants as simple
use Rattle.rx_clause_tree.specs.declared.template.Parse.{Parse}
use Rattle.rx_clause_tree.specs.declared.template.ParseFrom.{ParseFrom}
use Rattle.rx_clause_tree.specs.declared.template.ParseFrom.TheVariants as from
use Rattle.rx_clause_tree.specs.declared.template.Template.{Template}
use Rattle.rx_template.specs.declared.template.TPart.{TPart}
use Rattle.rx_frames.specs.declared.position.CallState.{CallState}
use Rattle.rx_frames.specs.declared.position.CallState.TheVariants.{NoCall, Awaiting, Answered}
use Rattle.rx_frames.specs.Frames.{Frame}
use Rattle.rx_frames.specs.Activities.{frames_at}
use Rattle.rx_names.specs.Homes.{variables_at}
use Rattle.rx_flow.specs.Rules.{Rule, Does, Begins, Asks, Loops, Fails}
use Rattle.rx_flow.specs.Todo.{Item, past_labels}
use Rattle.rx_eval.specs.Evaluation.{AllFound, AllDone, AllRaise, AllNoValue, AllCall}
use Rattle.rx_eval.specs.Places.{Trees}
use Rattle.rx_machine.specs.Todo.{Todo}
use Rattle.rx_machine.specs.World as w
use Rattle.rx_machine.specs.World.{World, Stepped, WantsLine, counted}
use Rattle.rx_machine.specs.Turns.{Turn}
use Rattle.rx_machine.specs.Scenes.{comes_to}
use Rattle.rx_machine.specs.Templates.{all_rows, alone, bound_all, cuts, from_input, from_queue, in_case, input_line, parses_bound, pulled_line, texts_from}
use Rattle.rx_machine.specs.Answers as answers
use Rattle.rx_machine.specs.Answers.{Resumed, Left, Without, resumed}
use Rattle.rx_machine.specs.Clauses.{finish, refused, trees_of}
use Rattle.rx_machine.specs.Step.{goes, goes_by, resumes, rule_of, settle, starts, step, step_frame, step_frames, step_items, stretch, takes, turn}
use Rattle.rx_machine.specs.Input.{with_more}
use Rattle.rx_machine.proofs.GrowthLemmas.{assigns-grow}
use Rattle.rx_machine.specs.Laws.{GivenEndIsTaken, GivenLineIsTaken, IsTaken, WantsAreEmpty}

-- the same turn with more input
abbrev turn_with : List (List ℕ) → Bool → Turn → Turn
turn_with more last t = record t { world = with_more more last t.world }

-- it is done, and no line is left
abbrev Takes : Stepped → Type 0
Takes (w.Done next) = next.rest ≡ []
Takes WantsLine = ⊥

-- where a step of a world wants a line, none is there, and the same step with more input is done
abbrev Wants : World → Stepped → Stepped → Type 0
Wants v (w.Done next) longer = Unit {0}
Wants v WantsLine longer = (v.rest ≡ []) × (v.ended ≡ false) × Takes longer

-- ---- lines that are read

-- a line is read, and no other is left
abbrev IsLast : Option (List ℕ × World) → Type 0
IsLast None = ⊥
IsLast (Some taken) = taken.1.rest ≡ []

-- more input gives one line, or the end, where none is left
abbrev Gives : List (List ℕ) → Bool → World → Type 0
Gives more last v = v.rest ≡ [] → IsLast (from_input (with_more more last v) more)

gives-line : (line : List ℕ) (last : Bool) (v : World) → Gives (line ∷ []) last v
gives-line line last v none = refl

gives-end : (v : World) → Gives [] true v
gives-end v none = ap (λ (lines : List (List ℕ)). lines ++ []) none

abbrev LineWants : World → Option (List ℕ × World) → Option (List ℕ × World) → Type 0
LineWants v None longer = (v.rest ≡ []) × (v.ended ≡ false) × IsLast longer
LineWants v (Some taken) longer = Unit {0}

-- the same of texts
abbrev AreLast : Option (List (List ℕ) × World) → Type 0
AreLast None = ⊥
AreLast (Some taken) = taken.1.rest ≡ []

abbrev TextsWant : World → Option (List (List ℕ) × World) → Option (List (List ℕ) × World) → Type 0
TextsWant v None longer = (v.rest ≡ []) × (v.ended ≡ false) × AreLast longer
TextsWant v (Some taken) longer = Unit {0}

if-wants : (v : World) (test : Bool) (longer : Option (List ℕ × World)) → v.ended ≡ test → v.rest ≡ [] → IsLast longer
    → LineWants v (if test then Some ([], v) else None) longer
if-wants v true longer is none last = tt
if-wants v false longer is none last = (none, is, last)

input-wants : (more : List (List ℕ)) (last : Bool) (v : World) (lines : List (List ℕ)) → v.rest ≡ lines → Gives more last v
    → LineWants v (from_input v lines) (from_input (with_more more last v) (lines ++ more))
input-wants more last v [] is gives = if-wants v v.ended (from_input (with_more more last v) more) refl is (gives is)
input-wants more last v (line ∷ lines) is gives = tt

queue-wants : (more : List (List ℕ)) (last : Bool) (v : World) (lines : List (List ℕ)) → Gives more last v
    → LineWants v (from_queue v lines) (from_queue (with_more more last v) lines)
queue-wants more last v [] gives = input-wants more last v v.rest refl gives
queue-wants more last v (line ∷ lines) gives = tt

last-alone : (longer : Option (List ℕ × World)) → IsLast longer → AreLast (option_map alone longer)
last-alone None is = is
last-alone (Some taken) is = is

alone-wants : (v : World) (taken longer : Option (List ℕ × World)) → LineWants v taken longer
    → TextsWant v (option_map alone taken) (option_map alone longer)
alone-wants v None longer wants = (wants.0, wants.1, last-alone longer wants.2)
alone-wants v (Some taken) longer wants = tt

texts-want : (more : List (List ℕ)) (last : Bool) (t : Turn) (values : List Value) (origin : ParseFrom) → Gives more last t.world
    → TextsWant t.world (texts_from t values origin) (texts_from (turn_with more last t) values origin)
texts-want more last t values from.Arg gives = tt
texts-want more last t values from.Pull gives =
    alone-wants t.world (pulled_line t.world) (pulled_line (with_more more last t.world)) (queue-wants more last t.world t.world.queue gives)
texts-want more last t values from.LineIn gives =
    alone-wants t.world (input_line t.world) (input_line (with_more more last t.world)) (input-wants more last t.world t.world.rest refl gives)
texts-want more last t values (from.Var name) gives = tt
texts-want more last t values (from.Value expr) gives = tt

cuts-take : (t : Turn) (upper : Bool) (bound : List (Template × List TPart)) (longer : Option (List (List ℕ) × World)) → AreLast longer
    → Takes (cuts t upper bound longer)
cuts-take t upper bound None last = last
cuts-take t upper bound (Some taken) last =
    (assigns-grow (record t { world = taken.1 }) (all_rows bound (in_case upper taken.0))).rest last

cuts-want : (more : List (List ℕ)) (last : Bool) (t : Turn) (upper : Bool) (bound : List (Template × List TPart)) (taken longer : Option (List (List ℕ) × World))
    → TextsWant t.world taken longer → Wants t.world (cuts t upper bound taken) (cuts (turn_with more last t) upper bound longer)
cuts-want more last t upper bound None longer wants = (wants.0, wants.1, cuts-take (turn_with more last t) upper bound longer wants.2)
cuts-want more last t upper bound (Some taken) longer wants = tt

parses-want : (more : List (List ℕ)) (last : Bool) (t : Turn) (parse : Parse) (values : List Value) (bound : Result (List (Template × List TPart)) ℕ)
    → Gives more last t.world → Wants t.world (parses_bound t parse values bound) (parses_bound (turn_with more last t) parse values bound)
parses-want more last t parse values (Err number) gives = tt
parses-want more last t parse values (Ok bound) gives =
    cuts-want more last t parse.upper bound (texts_from t values parse.from) (texts_from (turn_with more last t) values parse.from)
    (texts-want more last t values parse.from gives)

-- ---- clauses

finish-wants : (more : List (List ℕ)) (last : Bool) (t : Turn) (one : OneClause) (values : List Value) → Gives more last t.world
    → Wants t.world (finish t one values) (finish (turn_with more last t) one values)
unfolding finish
finish-wants more last t (simple.Say given) values gives = tt
finish-wants more last t (simple.Assign name expr) values gives = tt
finish-wants more last t (simple.Message expr) values gives = tt
finish-wants more last t (simple.Return given) values gives = tt
finish-wants more last t (simple.Expose names) values gives = tt
finish-wants more last t (simple.UseArg strict parameters) values gives = tt
finish-wants more last t (simple.Parse parse) values gives =
    parses-want more last t parse values (bound_all (variables_at t.world.activities t.number) t.world.pools parse.templates) gives
finish-wants more last t (simple.Push given) values gives = tt
finish-wants more last t (simple.Queue given) values gives = tt
finish-wants more last t (simple.Drop names) values gives = tt
finish-wants more last t (simple.Label name) values gives = tt
finish-wants more last t (simple.SendAssign receiver part expr) values gives = tt
finish-wants more last t simple.Nop values gives = tt
finish-wants more last t (simple.Leave name) values gives = tt
finish-wants more last t (simple.Iterate name) values gives = tt
finish-wants more last t (simple.Call routine) values gives = tt
finish-wants more last t (simple.CallOn trap) values gives = tt
finish-wants more last t (simple.CallOff condition) values gives = tt
finish-wants more last t (simple.Exit given) values gives = tt
finish-wants more last t (simple.Signal label) values gives = tt
finish-wants more last t (simple.SignalOn trap) values gives = tt
finish-wants more last t (simple.SignalOff condition) values gives = tt
finish-wants more last t (simple.Procedure names) values gives = tt
finish-wants more last t (simple.Digits given) values gives = tt
finish-wants more last t (simple.GuardOn given) values gives = tt
finish-wants more last t (simple.GuardOff given) values gives = tt
finish-wants more last t (simple.Reply given) values gives = tt
finish-wants more last t (simple.Forward forward) values gives = tt
finish-wants more last t (simple.RaiseSyntax number given) values gives = tt
finish-wants more last t (simple.RaiseUser name given value) values gives = tt
finish-wants more last t (simple.Trace setting) values gives = tt

settle-wants : (more : List (List ℕ)) (last : Bool) (t : Turn) (one : OneClause) (found : AllFound) → Gives more last t.world
    → Wants t.world (settle t one found) (settle (turn_with more last t) one found)
settle-wants more last t one (AllDone values) gives = finish-wants more last t one values gives
settle-wants more last t one (AllRaise number) gives = tt
settle-wants more last t one (AllNoValue name) gives = tt
settle-wants more last t one (AllCall pending trees) gives = tt

stretch-wants : (more : List (List ℕ)) (last : Bool) (t : Turn) (one : OneClause) (trees : Trees) → Gives more last t.world
    → Wants t.world (stretch t one trees) (stretch (turn_with more last t) one trees)
unfolding comes_to
stretch-wants more last t one trees gives = settle-wants more last t one (comes_to t.world t.number t.frame trees) gives

starts-want : (more : List (List ℕ)) (last : Bool) (t : Turn) (one : OneClause) (number : Option ℕ) → Gives more last t.world
    → Wants t.world (starts t one number) (starts (turn_with more last t) one number)
starts-want more last t one None gives = stretch-wants more last t one (trees_of t.frame.arguments one) gives
starts-want more last t one (Some number) gives = tt

resumes-want : (more : List (List ℕ)) (last : Bool) (t : Turn) (one : OneClause) (by : Resumed) → Gives more last t.world
    → Wants t.world (resumes t one by) (resumes (turn_with more last t) one by)
resumes-want more last t one (Left trees) gives = stretch-wants more last t one trees gives
resumes-want more last t one Without gives = finish-wants more last t one [] gives
resumes-want more last t one (answers.Raises number) gives = tt

goes-by-wants : (more : List (List ℕ)) (last : Bool) (t : Turn) (state : CallState) (one : OneClause) → Gives more last t.world
    → Wants t.world (goes_by t state one) (goes_by (turn_with more last t) state one)
goes-by-wants more last t NoCall one gives = starts-want more last t one (refused t.frame one) gives
goes-by-wants more last t (Awaiting how) one gives = tt
goes-by-wants more last t (Answered how answer) one gives = resumes-want more last t one (resumed how answer t.frame.todo.trees) gives

goes-want : (more : List (List ℕ)) (last : Bool) (t : Turn) (by : Rule) → Gives more last t.world
    → Wants t.world (goes t by) (goes (turn_with more last t) by)
goes-want more last t (Does one) gives = goes-by-wants more last t t.frame.todo.call one gives
goes-want more last t (Begins clauses) gives = tt
goes-want more last t (Asks test one other) gives = tt
goes-want more last t (Loops header test clauses) gives = tt
goes-want more last t Fails gives = tt

-- ---- steps

items-want : (more : List (List ℕ)) (last : Bool) (v : World) (a : ℕ) (frame : Frame Todo) (items : List Item) → Gives more last v
    → Wants v (step_items v a frame items) (step_items (with_more more last v) a frame items)
items-want more last v a frame [] gives = tt
items-want more last v a frame (item ∷ rest) gives = goes-want more last (turn v a frame item rest) (rule_of item) gives

if-step-wants : (v next more : World) (test : Bool) (other longer : Stepped) → Wants v other longer
    → Wants v (if test then w.Done next else other) (if test then w.Done more else longer)
if-step-wants v next more true other longer wants = tt
if-step-wants v next more false other longer wants = wants

frame-wants : (more : List (List ℕ)) (last : Bool) (v : World) (a : ℕ) (frame : Frame Todo) → Gives more last v
    → Wants v (step_frame v a frame) (step_frame (with_more more last v) a frame)
frame-wants more last v a frame gives =
    if-step-wants v (takes v a frame) (takes (with_more more last v) a frame) frame.asks (step_items v a frame (past_labels frame.todo.items))
    (step_items (with_more more last v) a frame (past_labels frame.todo.items)) (items-want more last v a frame (past_labels frame.todo.items) gives)

frames-want : (more : List (List ℕ)) (last : Bool) (v : World) (a : ℕ) (frames : List (Frame Todo)) → Gives more last v
    → Wants v (step_frames v a frames) (step_frames (with_more more last v) a frames)
frames-want more last v a [] gives = tt
frames-want more last v a (frame ∷ frames) gives = frame-wants more last v a frame gives

step-wants : (more : List (List ℕ)) (last : Bool) (v : World) (a : ℕ) → Gives more last (counted v) → step v a ≡ WantsLine
    → (v.rest ≡ []) × (v.ended ≡ false) × Takes (step (with_more more last v) a)
step-wants more last v a gives wants =
    subst (λ (stepped : Stepped). Wants (counted v) stepped (step (with_more more last v) a)) wants
    (frames-want more last (counted v) a (frames_at v.activities a) gives)

-- a step that wants a line has none, and the end isn't known
pub wants-where : WantsAreEmpty
wants-where v a wants = let all : _ = step-wants [] true v a (gives-end (counted v)) wants in (all.0, all.1)

taken-by : (stepped : Stepped) → Takes stepped → IsTaken stepped
taken-by (w.Done next) none = record { next = next; is = refl; none = none }
taken-by WantsLine none = absurd none

-- with a line, or the end, it is done
pub line-is-taken : GivenLineIsTaken
line-is-taken v a line last wants = taken-by (step (with_more (line ∷ []) last v) a) (step-wants (line ∷ []) last v a (gives-line line last (counted v)) wants).2

pub end-is-taken : GivenEndIsTaken
end-is-taken v a wants = taken-by (step (with_more [] true v) a) (step-wants [] true v a (gives-end (counted v)) wants).2
