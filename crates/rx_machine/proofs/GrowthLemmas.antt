-- What every step keeps, and what grows.
use Rattle.std.proofs.Common.{◌≡◌, ℕ, ◌+◌, Bool, true, false, List, [], ◌∷◌, ◌++◌, Option, None, Some, Result, Ok, Err, refl, sym, ap, ◌∙◌, append_assoc}
use Rattle.std.specs.Prelude.{if◌then◌else◌, IsTrue, codes, map, option_map}
use Rattle.std.proofs.lemmas.List.{append-nil}
use Rattle.rx_tree.specs.Object.{Contents, Plain, ClassObject, Places, Line, Names, Message}
use Rattle.rx_tree.specs.declared.name.Name.{Name}
use Rattle.rx_tree.specs.declared.name.Name.TheVariants.{Simple}
use Rattle.rx_tree.specs.declared.note.Note.{Note}
use Rattle.rx_tree.specs.declared.note.Note.TheVariants.{Error}
use Rattle.rx_tree.specs.declared.value.Value.{Value}
use Rattle.rx_clause_tree.specs.declared.simple.Simple.{Simple as OneClause}
use Rattle.rx_clause_tree.specs.declared.simple.Simple.TheVariants as simple
use Rattle.rx_clause_tree.specs.declared.template.Parse.{Parse}
use Rattle.rx_clause_tree.specs.declared.template.ParseFrom.{ParseFrom}
use Rattle.rx_clause_tree.specs.declared.template.ParseFrom.TheVariants as from
use Rattle.rx_clause_tree.specs.declared.template.Template.{Template}
use Rattle.rx_template.specs.declared.template.TPart.{TPart}
use Rattle.rx_heap.specs.Objects.{contents_at}
use Rattle.rx_frames.specs.declared.parts.Own.{Own}
use Rattle.rx_frames.specs.declared.position.CallState.{CallState}
use Rattle.rx_frames.specs.declared.position.CallState.TheVariants.{NoCall, Awaiting, Answered}
use Rattle.rx_frames.specs.Frames.{Frame}
use Rattle.rx_frames.specs.Activities.{activity_at, first_message, frames_at}
use Rattle.rx_names.specs.Homes.{variables_at}
use Rattle.rx_flow.specs.Rules.{Rule, Does, Begins, Asks, Loops, Fails}
use Rattle.rx_flow.specs.Todo.{Item, past_labels}
use Rattle.rx_eval.specs.declared.call.Sent.{Sent as Called}
use Rattle.rx_eval.specs.declared.call.Sent.TheVariants as call
use Rattle.rx_eval.specs.Evaluation.{AllFound, AllDone, AllRaise, AllNoValue, AllCall}
use Rattle.rx_sends.specs.declared.parts.Sent.{Sent}
use Rattle.rx_sends.specs.Sending.{Sending, Done, Raises, NoMethod, sent}
use Rattle.rx_machine.specs.Todo.{Todo, by_clauses}
use Rattle.rx_machine.specs.World as w
use Rattle.rx_machine.specs.World.{World, Stepped, WantsLine, counted, parts_of, with_parts}
use Rattle.rx_machine.specs.Turns.{Turn, awaits, goes_on, line}
use Rattle.rx_machine.specs.Ending.{ended, given_by, handed}
use Rattle.rx_machine.specs.Raising.{raised}
use Rattle.rx_machine.specs.Sending.{calls, facts_of, first_of, first_sent, message, sending_of, sends}
use Rattle.rx_machine.specs.Scenes.{comes_to}
use Rattle.rx_machine.specs.Assigning.{Assigned, All, TooLong, assign_from, assigns, derived, expose_from, finished, is_too_long, with_exposed, with_value}
use Rattle.rx_machine.specs.Values.{first_value}
use Rattle.rx_machine.specs.Arguments.{rows}
use Rattle.rx_machine.specs.Variables.{dropped, exposes_by}
use Rattle.rx_machine.specs.Templates.{all_rows, alone, bound_all, cuts, from_input, from_queue, in_case, input_line, parses_bound, pulled_line, texts_from}
use Rattle.rx_machine.specs.Answers as answers
use Rattle.rx_machine.specs.Answers.{Resumed, Left, Without, awaited_by, resumed}
use Rattle.rx_machine.specs.Clauses.{finish, refused, trees_of}
use Rattle.rx_machine.specs.Step.{goes, goes_by, resumes, rule_of, settle, starts, step, step_frame, step_frames, step_items, turn}
use Rattle.rx_machine.specs.Runs.{after, is_done, world_after}
use Rattle.rx_machine.specs.Laws.{KeepsProgram, NoLineComes}

-- The program, its argument and its budget stay; what was said and noted stays said and noted; the steps are the same.
pub record Grows (old new : World) : Type 0 where
  pub keeps : KeepsProgram old new
  pub steps : new.steps ≡ old.steps
  pub ended : new.ended ≡ old.ended
  -- no line comes of itself
  pub rest : old.rest ≡ [] → new.rest ≡ []
  pub said : List ℕ
  pub output : new.output ≡ old.output ++ said
  pub noted : List Note
  pub notes : new.notes ≡ old.notes ++ noted

-- nothing of that has changed
same : (old new : World) → new.program ≡ old.program → new.arg ≡ old.arg → new.budget ≡ old.budget → new.steps ≡ old.steps
    → new.ended ≡ old.ended → new.output ≡ old.output → new.notes ≡ old.notes → new.rest ≡ old.rest → Grows old new
same old new program arg budget steps ended output notes rest = record {
  keeps = record { program = program; arg = arg; budget = budget };
  steps = steps;
  ended = ended;
  rest = λ none. rest ∙ none;
  said = [];
  output = output ∙ sym (append-nil old.output);
  noted = [];
  notes = notes ∙ sym (append-nil old.notes);
}

then_grows : (old mid new : World) → Grows old mid → Grows mid new → Grows old new
then_grows old mid new first second = record {
  keeps = record {
    program = second.keeps.program ∙ first.keeps.program;
    arg = second.keeps.arg ∙ first.keeps.arg;
    budget = second.keeps.budget ∙ first.keeps.budget;
  };
  steps = second.steps ∙ first.steps;
  ended = second.ended ∙ first.ended;
  rest = λ none. second.rest (first.rest none);
  said = first.said ++ second.said;
  output = second.output ∙ ap (λ (bytes : List ℕ). bytes ++ second.said) first.output ∙ append_assoc old.output first.said second.said;
  noted = first.noted ++ second.noted;
  notes = second.notes ∙ ap (λ (notes : List Note). notes ++ second.noted) first.notes ∙ append_assoc old.notes first.noted second.noted;
}

abbrev pub StepGrows : World → Stepped → Type 0
StepGrows old (w.Done new) = Grows old new
StepGrows old WantsLine = Unit {0}

-- ---- frames that end, and errors

handed-grows : (old : World) (a : ℕ) (value : Option Value) (frames : List (Frame Todo)) → Grows old (handed old a value frames)
handed-grows old a value [] = same old _ refl refl refl refl refl refl refl refl
handed-grows old a value (frame ∷ frames) = same old _ refl refl refl refl refl refl refl refl

ended-grows : (old : World) (a : ℕ) (frame : Frame Todo) (value : Option Value) → Grows old (ended old a frame value)
unfolding ended
ended-grows old a frame value = then_grows old _ _ (same old _ refl refl refl refl refl refl refl refl) (handed-grows _ a (given_by frame value) _)

raised-grows : (old : World) (a number line : ℕ) → Grows old (raised old a number line)
unfolding raised
raised-grows old a number line = record {
  keeps = record { program = refl; arg = refl; budget = refl };
  steps = refl;
  ended = refl;
  rest = λ none. none;
  said = [];
  output = sym (append-nil old.output);
  noted = Error number line a ∷ [];
  notes = refl;
}

-- ---- messages

sending-grows : (old : World) (a line : ℕ) (sending : Sending Todo) → Grows old (sending_of old a line sending)
sending-grows old a line (Done parts) = same old _ refl refl refl refl refl refl refl refl
sending-grows old a line (Raises number parts) = then_grows old (with_parts old parts) _ (same old _ refl refl refl refl refl refl refl refl) (raised-grows (with_parts old parts) a number line)
sending-grows old a line (NoMethod parts) = then_grows old (with_parts old parts) _ (same old _ refl refl refl refl refl refl refl refl) (raised-grows (with_parts old parts) a _ line)

sends-grows : (old : World) (a line : ℕ) (one : Sent) → Grows old (sends old a line one)
unfolding sends
sends-grows old a line one = sending-grows old a line (sent (by_clauses old.program) (facts_of old a) (parts_of old) a one)

calls-grow : (old : World) (a line : ℕ) (one : Called) → Grows old (calls old a line one)
calls-grow old a line (call.Message target name above args) = sends-grows old a line (message target name above args)
calls-grow old a line (call.Label name args) = same old _ refl refl refl refl refl refl refl refl
calls-grow old a line (call.Routine name args) = same old _ refl refl refl refl refl refl refl refl

first-grows : (old : World) (a : ℕ) (contents : Contents) → Grows old (first_sent old a contents)
first-grows old a (Message sending) = sends-grows old a 0 (message sending.target sending.name None sending.args)
first-grows old a Plain = same old _ refl refl refl refl refl refl refl refl
first-grows old a ClassObject = same old _ refl refl refl refl refl refl refl refl
first-grows old a (Places places) = same old _ refl refl refl refl refl refl refl refl
first-grows old a (Line items) = same old _ refl refl refl refl refl refl refl refl
first-grows old a (Names entries) = same old _ refl refl refl refl refl refl refl refl

first-of-grows : (old : World) (a : ℕ) (number : Option ℕ) → Grows old (first_of old a number)
first-of-grows old a None = same old _ refl refl refl refl refl refl refl refl
first-of-grows old a (Some number) = first-grows old a (contents_at old.objects number)

-- ---- variables

abbrev AllGrows : World → Assigned → Type 0
AllGrows old (All new) = Grows old new
AllGrows old (TooLong new) = Grows old new

if-grows : (old : World) (test : Bool) (one other : Assigned) → AllGrows old one → AllGrows old other → AllGrows old (if test then one else other)
if-grows old true one other first second = first
if-grows old false one other first second = second

all-then : (old mid : World) (one : Assigned) → Grows old mid → AllGrows mid one → AllGrows old one
all-then old mid (All new) first second = then_grows old mid new first second
all-then old mid (TooLong new) first second = then_grows old mid new first second

assign-grows : (old : World) (a : ℕ) (rows : List (Name × Option Value)) → AllGrows old (assign_from old a rows)
assign-grows old a [] = same old _ refl refl refl refl refl refl refl refl
assign-grows old a (row ∷ rows) =
    let next : World = with_value old a (derived old a row.0) row.1 in
    if-grows old (is_too_long (derived old a row.0)) (TooLong old) (assign_from next a rows) (same old _ refl refl refl refl refl refl refl refl)
    (all-then old next (assign_from next a rows) (same old next refl refl refl refl refl refl refl refl) (assign-grows next a rows))

expose-grows : (old : World) (a pool : ℕ) (names : List Name) → AllGrows old (expose_from old a pool names)
expose-grows old a pool [] = same old _ refl refl refl refl refl refl refl refl
expose-grows old a pool (name ∷ names) =
    let next : World = with_exposed old a pool (derived old a name) in
    if-grows old (is_too_long (derived old a name)) (TooLong old) (expose_from next a pool names) (same old _ refl refl refl refl refl refl refl refl)
    (all-then old next (expose_from next a pool names) (same old next refl refl refl refl refl refl refl refl) (expose-grows next a pool names))

finished-grows : (t : Turn) (old : World) (one : Assigned) → AllGrows old one → Grows old (finished t one)
finished-grows t old (All new) grows = grows
finished-grows t old (TooLong new) grows = then_grows old new _ grows (raised-grows new t.number _ (line t))

goes-on-grows : (t : Turn) → Grows t.world (goes_on t)
goes-on-grows t = same t.world _ refl refl refl refl refl refl refl refl

pub assigns-grow : (t : Turn) (rows : List (Name × Option Value)) → Grows t.world (assigns t rows)
assigns-grow t rows =
    then_grows t.world (goes_on t) _ (goes-on-grows t) (finished-grows t (goes_on t) (assign_from (goes_on t) t.number rows) (assign-grows (goes_on t) t.number rows))

exposes-grow : (t : Turn) (names : List Name) (own : Option Own) → Grows t.world (exposes_by t names own)
exposes-grow t names None = goes-on-grows t
exposes-grow t names (Some own) =
    then_grows t.world (goes_on t) _ (goes-on-grows t)
    (finished-grows t (goes_on t) (expose_from (goes_on t) t.number own.pool names) (expose-grows (goes_on t) t.number own.pool names))

-- ---- lines that are read

abbrev TakenGrows : World → Option (List (List ℕ) × World) → Type 0
TakenGrows old None = Unit {0}
TakenGrows old (Some taken) = Grows old taken.1

abbrev LineGrows : World → Option (List ℕ × World) → Type 0
LineGrows old None = Unit {0}
LineGrows old (Some taken) = Grows old taken.1

if-line : (old : World) (test : Bool) (one : List ℕ × World) → Grows old one.1 → LineGrows old (if test then Some one else None)
if-line old true one grows = grows
if-line old false one grows = tt

input-grows : (old : World) (lines : List (List ℕ)) → old.rest ≡ lines → LineGrows old (from_input old lines)
input-grows old [] is = if-line old old.ended ([], old) (same old old refl refl refl refl refl refl refl refl)
input-grows old (line ∷ lines) is = record {
  keeps = record { program = refl; arg = refl; budget = refl };
  steps = refl;
  ended = refl;
  rest = λ none. cc;
  said = [];
  output = sym (append-nil old.output);
  noted = [];
  notes = sym (append-nil old.notes);
}

queue-grows : (old : World) (lines : List (List ℕ)) → LineGrows old (from_queue old lines)
queue-grows old [] = input-grows old old.rest refl
queue-grows old (line ∷ lines) = same old _ refl refl refl refl refl refl refl refl

alone-grows : (old : World) (taken : Option (List ℕ × World)) → LineGrows old taken → TakenGrows old (option_map alone taken)
alone-grows old None grows = tt
alone-grows old (Some taken) grows = grows

texts-grow : (t : Turn) (values : List Value) (origin : ParseFrom) → TakenGrows t.world (texts_from t values origin)
texts-grow t values from.Arg = same t.world t.world refl refl refl refl refl refl refl refl
texts-grow t values from.Pull = alone-grows t.world (pulled_line t.world) (queue-grows t.world t.world.queue)
texts-grow t values from.LineIn = alone-grows t.world (input_line t.world) (input-grows t.world t.world.rest refl)
texts-grow t values (from.Var name) = same t.world t.world refl refl refl refl refl refl refl refl
texts-grow t values (from.Value expr) = same t.world t.world refl refl refl refl refl refl refl refl

cuts-grow : (t : Turn) (upper : Bool) (bound : List (Template × List TPart)) (taken : Option (List (List ℕ) × World)) → TakenGrows t.world taken
    → StepGrows t.world (cuts t upper bound taken)
cuts-grow t upper bound None grows = tt
cuts-grow t upper bound (Some taken) grows =
    let pieces : List (Name × Option Value) = all_rows bound (in_case upper taken.0) in
    then_grows t.world taken.1 _ grows (assigns-grow (record t { world = taken.1 }) pieces)

parses-grow : (t : Turn) (parse : Parse) (values : List Value) (bound : Result (List (Template × List TPart)) ℕ)
    → StepGrows t.world (parses_bound t parse values bound)
parses-grow t parse values (Err number) = raised-grows t.world t.number number (line t)
parses-grow t parse values (Ok bound) = cuts-grow t parse.upper bound (texts_from t values parse.from) (texts-grow t values parse.from)

-- ---- clauses

finish-grows : (t : Turn) (one : OneClause) (values : List Value) → StepGrows t.world (finish t one values)
unfolding finish
finish-grows t (simple.Say given) values = record {
  keeps = record { program = refl; arg = refl; budget = refl };
  steps = refl;
  ended = refl;
  rest = λ none. none;
  said = _;
  output = refl;
  noted = [];
  notes = sym (append-nil t.world.notes);
}
finish-grows t (simple.Assign name expr) values = assigns-grow t ((name, first_value values) ∷ [])
finish-grows t (simple.Message expr) values = assigns-grow t ((Simple (codes "RESULT"), first_value values) ∷ [])
finish-grows t (simple.Return given) values = ended-grows t.world t.number t.frame _
finish-grows t (simple.Expose names) values = exposes-grow t names t.frame.own
finish-grows t (simple.UseArg strict parameters) values = assigns-grow t (rows parameters t.frame.arguments values)
finish-grows t (simple.Parse parse) values = parses-grow t parse values (bound_all (variables_at t.world.activities t.number) t.world.pools parse.templates)
finish-grows t (simple.Push given) values = same t.world _ refl refl refl refl refl refl refl refl
finish-grows t (simple.Queue given) values = same t.world _ refl refl refl refl refl refl refl refl
finish-grows t (simple.Drop names) values = assigns-grow t (map dropped names)
finish-grows t (simple.Label name) values = goes-on-grows t
finish-grows t (simple.SendAssign receiver part expr) values = goes-on-grows t
finish-grows t simple.Nop values = goes-on-grows t
finish-grows t (simple.Leave name) values = goes-on-grows t
finish-grows t (simple.Iterate name) values = goes-on-grows t
finish-grows t (simple.Call routine) values = goes-on-grows t
finish-grows t (simple.CallOn trap) values = goes-on-grows t
finish-grows t (simple.CallOff condition) values = goes-on-grows t
finish-grows t (simple.Exit given) values = goes-on-grows t
finish-grows t (simple.Signal label) values = goes-on-grows t
finish-grows t (simple.SignalOn trap) values = goes-on-grows t
finish-grows t (simple.SignalOff condition) values = goes-on-grows t
finish-grows t (simple.Procedure names) values = goes-on-grows t
finish-grows t (simple.Digits given) values = goes-on-grows t
finish-grows t (simple.GuardOn given) values = goes-on-grows t
finish-grows t (simple.GuardOff given) values = goes-on-grows t
finish-grows t (simple.Reply given) values = goes-on-grows t
finish-grows t (simple.Forward forward) values = goes-on-grows t
finish-grows t (simple.RaiseSyntax number given) values = goes-on-grows t
finish-grows t (simple.RaiseUser name given value) values = goes-on-grows t
finish-grows t (simple.Trace setting) values = goes-on-grows t

settle-grows : (t : Turn) (one : OneClause) (found : AllFound) → StepGrows t.world (settle t one found)
settle-grows t one (AllDone values) = finish-grows t one values
settle-grows t one (AllRaise number) = raised-grows t.world t.number number (line t)
settle-grows t one (AllNoValue name) = goes-on-grows t
settle-grows t one (AllCall pending trees) =
    let next : World = awaits t (awaited_by one pending.awaited trees) trees in
    then_grows t.world next _ (same t.world next refl refl refl refl refl refl refl refl) (calls-grow next t.number (line t) pending.sent)

starts-grow : (t : Turn) (one : OneClause) (number : Option ℕ) → StepGrows t.world (starts t one number)
starts-grow t one None = settle-grows t one (comes_to t.world t.number t.frame (trees_of t.frame.arguments one))
starts-grow t one (Some number) = raised-grows t.world t.number number (line t)

resumes-grow : (t : Turn) (one : OneClause) (by : Resumed) → StepGrows t.world (resumes t one by)
resumes-grow t one (Left trees) = settle-grows t one (comes_to t.world t.number t.frame trees)
resumes-grow t one Without = finish-grows t one []
resumes-grow t one (answers.Raises number) = raised-grows t.world t.number number (line t)

goes-by-grows : (t : Turn) (state : CallState) (one : OneClause) → StepGrows t.world (goes_by t state one)
goes-by-grows t NoCall one = starts-grow t one (refused t.frame one)
goes-by-grows t (Awaiting how) one = same t.world t.world refl refl refl refl refl refl refl refl
goes-by-grows t (Answered how answer) one = resumes-grow t one (resumed how answer t.frame.todo.trees)

goes-grows : (t : Turn) (by : Rule) → StepGrows t.world (goes t by)
goes-grows t (Does one) = goes-by-grows t t.frame.todo.call one
goes-grows t (Begins clauses) = goes-on-grows t
goes-grows t (Asks test one other) = goes-on-grows t
goes-grows t (Loops header test clauses) = goes-on-grows t
goes-grows t Fails = goes-on-grows t

-- ---- steps

items-grow : (old : World) (a : ℕ) (frame : Frame Todo) (items : List Item) → StepGrows old (step_items old a frame items)
items-grow old a frame [] = ended-grows old a frame None
items-grow old a frame (item ∷ rest) = goes-grows (turn old a frame item rest) (rule_of item)

if-step : (old : World) (test : Bool) (one other : Stepped) → StepGrows old one → StepGrows old other → StepGrows old (if test then one else other)
if-step old true one other first second = first
if-step old false one other first second = second

frame-grows : (old : World) (a : ℕ) (frame : Frame Todo) → StepGrows old (step_frame old a frame)
frame-grows old a frame =
    if-step old frame.asks _ (step_items old a frame (past_labels frame.todo.items)) (same old _ refl refl refl refl refl refl refl refl)
    (items-grow old a frame (past_labels frame.todo.items))

frames-grow : (old : World) (a : ℕ) (frames : List (Frame Todo)) → StepGrows old (step_frames old a frames)
frames-grow old a [] = first-of-grows old a (first_message (activity_at old.activities a))
frames-grow old a (frame ∷ frames) = frame-grows old a frame

-- but for the steps, which one more is counted of
pub record Grown (old new : World) : Type 0 where
  pub keeps : KeepsProgram old new
  pub said : List ℕ
  pub output : new.output ≡ old.output ++ said
  pub noted : List Note
  pub notes : new.notes ≡ old.notes ++ noted

pub Grown-same : (old : World) → Grown old old
Grown-same old = record {
  keeps = record { program = refl; arg = refl; budget = refl };
  said = [];
  output = sym (append-nil old.output);
  noted = [];
  notes = sym (append-nil old.notes);
}

pub Grown-then : (old mid new : World) → Grown old mid → Grown mid new → Grown old new
Grown-then old mid new first second = record {
  keeps = record {
    program = second.keeps.program ∙ first.keeps.program;
    arg = second.keeps.arg ∙ first.keeps.arg;
    budget = second.keeps.budget ∙ first.keeps.budget;
  };
  said = first.said ++ second.said;
  output = second.output ∙ ap (λ (bytes : List ℕ). bytes ++ second.said) first.output ∙ append_assoc old.output first.said second.said;
  noted = first.noted ++ second.noted;
  notes = second.notes ∙ ap (λ (notes : List Note). notes ++ second.noted) first.notes ∙ append_assoc old.notes first.noted second.noted;
}

after-by : (old : World) (stepped : Stepped) → StepGrows (counted old) stepped → Grown old (world_after old stepped)
after-by old (w.Done new) grows = record {
  keeps = record { program = grows.keeps.program; arg = grows.keeps.arg; budget = grows.keeps.budget };
  said = grows.said;
  output = grows.output;
  noted = grows.noted;
  notes = grows.notes;
}
after-by old WantsLine grows = Grown-same old

pub after-grown : (old : World) (a : ℕ) → Grown old (after old a)
after-grown old a = after-by old (step old a) (frames-grow (counted old) a (frames_at old.activities a))

counted-by : (old : World) (stepped : Stepped) → StepGrows (counted old) stepped → is_done stepped ≡ true → (world_after old stepped).steps ≡ old.steps + 1
counted-by old (w.Done new) grows done = grows.steps
counted-by old WantsLine grows done = cc

pub after-steps : (old : World) (a : ℕ) → IsTrue (is_done (step old a)) → (after old a).steps ≡ old.steps + 1
after-steps old a done = counted-by old (step old a) (frames-grow (counted old) a (frames_at old.activities a)) done

ended-after : (old : World) (stepped : Stepped) → StepGrows (counted old) stepped → (world_after old stepped).ended ≡ old.ended
ended-after old (w.Done new) grows = grows.ended
ended-after old WantsLine grows = refl

-- whether the end of input is known stays as it was
pub after-ended : (old : World) (a : ℕ) → (after old a).ended ≡ old.ended
after-ended old a = ended-after old (step old a) (frames-grow (counted old) a (frames_at old.activities a))

same-world : (one other : World) → w.Done one ≡ w.Done other → one ≡ other
same-world one other is = ap (world_after one) is

rest-after : (old new : World) (stepped : Stepped) → StepGrows (counted old) stepped → stepped ≡ w.Done new → old.rest ≡ [] → new.rest ≡ []
rest-after old new (w.Done next) grows is none = ap (λ (v : World). v.rest) (sym (same-world next new is)) ∙ grows.rest none
rest-after old new WantsLine grows is none = cc

-- where no line is left, none is after a step
pub no-line-comes : NoLineComes
no-line-comes old new a is none = rest-after old new (step old a) (frames-grow (counted old) a (frames_at old.activities a)) is none
