-- More input changes no step that wants no line.
use Rattle.std.proofs.Common.{◌≡◌, ℕ, Bool, true, false, ◌&&◌, List, [], ◌∷◌, ◌++◌, Option, None, Some, Result, Ok, Err, refl, sym, ap, ◌∙◌, subst}
use Rattle.std.specs.Prelude.{if◌then◌else◌, IsTrue, codes, map, option_map}
use Rattle.std.specs.Cmp.{first_so, second_so}
use Rattle.rx_tree.specs.Object.{Contents, Plain, ClassObject, Places, Line, Names, Message}
use Rattle.rx_tree.specs.declared.activity.Outcome.TheVariants as outcome
use Rattle.rx_tree.specs.declared.name.Name.{Name}
use Rattle.rx_tree.specs.declared.name.Name.TheVariants.{Simple}
use Rattle.rx_tree.specs.declared.value.Value.{Value}
use Rattle.rx_clause_tree.specs.declared.simple.Simple.{Simple as OneClause}
use Rattle.rx_clause_tree.specs.declared.simple.Simple.TheVariants as simple
use Rattle.rx_clause_tree.specs.declared.template.Parse.{Parse}
use Rattle.rx_clause_tree.specs.declared.template.ParseFrom.{ParseFrom}
use Rattle.rx_clause_tree.specs.declared.template.ParseFrom.TheVariants as from
use Rattle.rx_clause_tree.specs.declared.template.Template.{Template}
use Rattle.rx_template.specs.declared.template.TPart.{TPart}
use Rattle.rx_heap.specs.Objects.{contents_at}
use Rattle.rx_frames.specs.declared.parts.Own.{Own}
use Rattle.rx_frames.specs.declared.position.CallState.{CallState}
use Rattle.rx_frames.specs.declared.position.CallState.TheVariants.{NoCall, Awaiting, Answered}
use Rattle.rx_frames.specs.Frames.{Frame}
use Rattle.rx_frames.specs.Activities.{activity_at, first_message, frames_at, with_change_at}
use Rattle.rx_names.specs.Homes.{variables_at}
use Rattle.rx_flow.specs.Rules.{Rule, Does, Begins, Asks, Loops, Fails}
use Rattle.rx_flow.specs.Todo.{Item, past_labels}
use Rattle.rx_eval.specs.declared.call.Sent.{Sent as Called}
use Rattle.rx_eval.specs.declared.call.Sent.TheVariants as call
use Rattle.rx_eval.specs.Evaluation.{AllFound, AllDone, AllRaise, AllNoValue, AllCall}
use Rattle.rx_eval.specs.Places.{Trees}
use Rattle.rx_sends.specs.declared.parts.Sent.{Sent}
use Rattle.rx_native.specs.Outcomes.{or_nil}
use Rattle.rx_sends.specs.Sending.{Sending, Done, Raises, NoMethod, completed, sent}
use Rattle.rx_machine.specs.Todo.{Todo, by_clauses}
use Rattle.rx_machine.specs.World as w
use Rattle.rx_machine.specs.World.{World, Stepped, WantsLine, counted, parts_of, with_parts}
use Rattle.rx_machine.specs.Turns.{Turn, awaits, goes_on, line}
use Rattle.rx_machine.specs.Ending.{ended, given_by, handed, without_top}
use Rattle.rx_machine.specs.Raising.{raised}
use Rattle.rx_machine.specs.Sending.{calls, facts_of, first_of, first_sent, message, sending_of, sends}
use Rattle.rx_machine.specs.Scenes.{comes_to}
use Rattle.rx_machine.specs.Assigning.{Assigned, All, TooLong, assign_from, assigns, derived, expose_from, finished, is_too_long, with_exposed, with_value}
use Rattle.rx_machine.specs.Values.{first_value}
use Rattle.rx_machine.specs.Arguments.{rows}
use Rattle.rx_machine.specs.Variables.{dropped, exposes_by}
use Rattle.rx_machine.specs.Templates.{all_rows, alone, bound_all, cuts, from_input, from_queue, in_case, input_line, parses_bound, pulled_line, texts_from}
use Rattle.rx_machine.specs.Answers as answers
use Rattle.rx_machine.specs.Answers.{Resumed, Left, Without, awaited_by, resumed}
use Rattle.rx_machine.specs.Clauses.{finish, refused, trees_of}
use Rattle.rx_machine.specs.Step.{goes, goes_by, resumes, rule_of, settle, starts, step, step_frame, step_frames, step_items, stretch, takes, turn}
use Rattle.rx_machine.specs.Enabled.{enabled, holder_before, robin}
use Rattle.rx_machine.specs.End.{end}
use Rattle.rx_machine.specs.Input.{with_more}
use Rattle.rx_machine.proofs.GrowthLemmas.{after-ended}
use Rattle.rx_machine.specs.Runs.{IsSerialAfter, SerialRun, after, is_done, is_going, legal, may_pick, run, world_after}

-- the same turn with more input
abbrev turn_with : List (List ℕ) → Bool → Turn → Turn
turn_with more ended t = record t { world = with_more more ended t.world }

abbrev pub stepped_with : List (List ℕ) → Bool → Stepped → Stepped
stepped_with more ended (w.Done next) = w.Done (with_more more ended next)
stepped_with more ended WantsLine = WantsLine

-- a step that wants no line is the same with more input
abbrev pub Keeps : List (List ℕ) → Bool → Stepped → Stepped → Type 0
Keeps more ended one other = is_done one ≡ true → other ≡ stepped_with more ended one

-- ---- frames that end, errors and messages

handed-with : (more : List (List ℕ)) (last : Bool) (v : World) (a : ℕ) (value : Option Value) (frames : List (Frame Todo))
    → handed (with_more more last v) a value frames ≡ with_more more last (handed v a value frames)
handed-with more last v a value [] = refl
handed-with more last v a value (frame ∷ frames) = refl

ended-with : (more : List (List ℕ)) (last : Bool) (v : World) (a : ℕ) (frame : Frame Todo) (value : Option Value)
    → ended (with_more more last v) a frame value ≡ with_more more last (ended v a frame value)
unfolding ended
ended-with more last v a frame value =
    let given : Option Value = given_by frame value in
    let next : World = record v {
      objects = completed v.objects frame.completes (outcome.Given (or_nil given));
      activities = with_change_at v.activities a without_top;
    } in
    handed-with more last next a given (frames_at next.activities a)

raised-with : (more : List (List ℕ)) (last : Bool) (v : World) (a number at : ℕ)
    → raised (with_more more last v) a number at ≡ with_more more last (raised v a number at)
unfolding raised
raised-with more last v a number at = refl

sending-with : (more : List (List ℕ)) (last : Bool) (v : World) (a at : ℕ) (sending : Sending Todo)
    → sending_of (with_more more last v) a at sending ≡ with_more more last (sending_of v a at sending)
sending-with more last v a at (Done parts) = refl
sending-with more last v a at (Raises number parts) = raised-with more last (with_parts v parts) a number at
sending-with more last v a at (NoMethod parts) = raised-with more last (with_parts v parts) a _ at

sends-with : (more : List (List ℕ)) (last : Bool) (v : World) (a at : ℕ) (one : Sent)
    → sends (with_more more last v) a at one ≡ with_more more last (sends v a at one)
unfolding sends
sends-with more last v a at one = sending-with more last v a at (sent (by_clauses v.program) (facts_of v a) (parts_of v) a one)

calls-with : (more : List (List ℕ)) (last : Bool) (v : World) (a at : ℕ) (one : Called)
    → calls (with_more more last v) a at one ≡ with_more more last (calls v a at one)
calls-with more last v a at (call.Message target name above args) = sends-with more last v a at (message target name above args)
calls-with more last v a at (call.Label name args) = refl
calls-with more last v a at (call.Routine name args) = refl

first-with : (more : List (List ℕ)) (last : Bool) (v : World) (a : ℕ) (contents : Contents)
    → first_sent (with_more more last v) a contents ≡ with_more more last (first_sent v a contents)
first-with more last v a (Message sending) = sends-with more last v a 0 (message sending.target sending.name None sending.args)
first-with more last v a Plain = refl
first-with more last v a ClassObject = refl
first-with more last v a (Places places) = refl
first-with more last v a (Line items) = refl
first-with more last v a (Names entries) = refl

first-of-with : (more : List (List ℕ)) (last : Bool) (v : World) (a : ℕ) (number : Option ℕ)
    → first_of (with_more more last v) a number ≡ with_more more last (first_of v a number)
first-of-with more last v a None = refl
first-of-with more last v a (Some number) = first-with more last v a (contents_at v.objects number)

-- ---- variables

abbrev assigned_with : List (List ℕ) → Bool → Assigned → Assigned
assigned_with more last (All v) = All (with_more more last v)
assigned_with more last (TooLong v) = TooLong (with_more more last v)

if-with : (more : List (List ℕ)) (last : Bool) (test : Bool) (one other longer : Assigned) → longer ≡ assigned_with more last other
    → (if test then assigned_with more last one else longer) ≡ assigned_with more last (if test then one else other)
if-with more last true one other longer is = refl
if-with more last false one other longer is = is

assign-with : (more : List (List ℕ)) (last : Bool) (v : World) (a : ℕ) (rows : List (Name × Option Value))
    → assign_from (with_more more last v) a rows ≡ assigned_with more last (assign_from v a rows)
assign-with more last v a [] = refl
assign-with more last v a (row ∷ rows) =
    let next : World = with_value v a (derived v a row.0) row.1 in
    if-with more last (is_too_long (derived v a row.0)) (TooLong v) (assign_from next a rows) (assign_from (with_more more last next) a rows)
    (assign-with more last next a rows)

expose-with : (more : List (List ℕ)) (last : Bool) (v : World) (a pool : ℕ) (names : List Name)
    → expose_from (with_more more last v) a pool names ≡ assigned_with more last (expose_from v a pool names)
expose-with more last v a pool [] = refl
expose-with more last v a pool (name ∷ names) =
    let next : World = with_exposed v a pool (derived v a name) in
    if-with more last (is_too_long (derived v a name)) (TooLong v) (expose_from next a pool names) (expose_from (with_more more last next) a pool names)
    (expose-with more last next a pool names)

finished-with : (more : List (List ℕ)) (last : Bool) (t : Turn) (one longer : Assigned) → longer ≡ assigned_with more last one
    → finished (turn_with more last t) longer ≡ with_more more last (finished t one)
finished-with more last t (All v) longer is = ap (finished (turn_with more last t)) is
finished-with more last t (TooLong v) longer is = ap (finished (turn_with more last t)) is ∙ raised-with more last v t.number _ (line t)

assigns-with : (more : List (List ℕ)) (last : Bool) (t : Turn) (rows : List (Name × Option Value))
    → assigns (turn_with more last t) rows ≡ with_more more last (assigns t rows)
assigns-with more last t rows =
    finished-with more last t (assign_from (goes_on t) t.number rows) (assign_from (with_more more last (goes_on t)) t.number rows)
    (assign-with more last (goes_on t) t.number rows)

exposes-with : (more : List (List ℕ)) (last : Bool) (t : Turn) (names : List Name) (own : Option Own)
    → exposes_by (turn_with more last t) names own ≡ with_more more last (exposes_by t names own)
exposes-with more last t names None = refl
exposes-with more last t names (Some own) =
    finished-with more last t (expose_from (goes_on t) t.number own.pool names) (expose_from (with_more more last (goes_on t)) t.number own.pool names)
    (expose-with more last (goes_on t) t.number own.pool names)

-- ---- lines that are read

-- a line that is there is the same one
abbrev LineKeeps : List (List ℕ) → Bool → Option (List ℕ × World) → Option (List ℕ × World) → Type 0
LineKeeps more last None longer = Unit {0}
LineKeeps more last (Some taken) longer = longer ≡ Some (taken.0, with_more more last taken.1)

abbrev TextsKeep : List (List ℕ) → Bool → Option (List (List ℕ) × World) → Option (List (List ℕ) × World) → Type 0
TextsKeep more last None longer = Unit {0}
TextsKeep more last (Some taken) longer = longer ≡ Some (taken.0, with_more more last taken.1)

no-line : (more : List (List ℕ)) (last : Bool) (v : World) (test : Bool) (longer : Option (List ℕ × World)) → test ≡ false
    → LineKeeps more last (if test then Some ([], v) else None) longer
no-line more last v true longer is = cc
no-line more last v false longer is = tt

input-keeps : (more : List (List ℕ)) (last : Bool) (v : World) (lines : List (List ℕ)) → v.ended ≡ false
    → LineKeeps more last (from_input v lines) (from_input (with_more more last v) (lines ++ more))
input-keeps more last v [] unknown = no-line more last v v.ended (from_input (with_more more last v) more) unknown
input-keeps more last v (line ∷ lines) unknown = refl

queue-keeps : (more : List (List ℕ)) (last : Bool) (v : World) (lines : List (List ℕ)) → v.ended ≡ false
    → LineKeeps more last (from_queue v lines) (from_queue (with_more more last v) lines)
queue-keeps more last v [] unknown = input-keeps more last v v.rest unknown
queue-keeps more last v (line ∷ lines) unknown = refl

alone-keeps : (more : List (List ℕ)) (last : Bool) (taken longer : Option (List ℕ × World)) → LineKeeps more last taken longer
    → TextsKeep more last (option_map alone taken) (option_map alone longer)
alone-keeps more last None longer keeps = tt
alone-keeps more last (Some taken) longer keeps = ap (option_map alone) keeps

texts-keep : (more : List (List ℕ)) (last : Bool) (t : Turn) (values : List Value) (origin : ParseFrom) → t.world.ended ≡ false
    → TextsKeep more last (texts_from t values origin) (texts_from (turn_with more last t) values origin)
texts-keep more last t values from.Arg unknown = refl
texts-keep more last t values from.Pull unknown =
    alone-keeps more last (pulled_line t.world) (pulled_line (with_more more last t.world)) (queue-keeps more last t.world t.world.queue unknown)
texts-keep more last t values from.LineIn unknown =
    alone-keeps more last (input_line t.world) (input_line (with_more more last t.world)) (input-keeps more last t.world t.world.rest unknown)
texts-keep more last t values (from.Var name) unknown = refl
texts-keep more last t values (from.Value expr) unknown = refl

cuts-keep : (more : List (List ℕ)) (last : Bool) (t : Turn) (upper : Bool) (bound : List (Template × List TPart)) (taken longer : Option (List (List ℕ) × World))
    → TextsKeep more last taken longer → Keeps more last (cuts t upper bound taken) (cuts (turn_with more last t) upper bound longer)
cuts-keep more last t upper bound None longer keeps done = cc
cuts-keep more last t upper bound (Some taken) longer keeps done =
    ap (cuts (turn_with more last t) upper bound) keeps
    ∙ ap w.Done (assigns-with more last (record t { world = taken.1 }) (all_rows bound (in_case upper taken.0)))

parses-keep : (more : List (List ℕ)) (last : Bool) (t : Turn) (parse : Parse) (values : List Value) (bound : Result (List (Template × List TPart)) ℕ)
    → t.world.ended ≡ false → Keeps more last (parses_bound t parse values bound) (parses_bound (turn_with more last t) parse values bound)
parses-keep more last t parse values (Err number) unknown = λ done. ap w.Done (raised-with more last t.world t.number number (line t))
parses-keep more last t parse values (Ok bound) unknown =
    cuts-keep more last t parse.upper bound (texts_from t values parse.from) (texts_from (turn_with more last t) values parse.from)
    (texts-keep more last t values parse.from unknown)

-- ---- clauses

finish-keeps : (more : List (List ℕ)) (last : Bool) (t : Turn) (one : OneClause) (values : List Value) → t.world.ended ≡ false
    → Keeps more last (finish t one values) (finish (turn_with more last t) one values)
unfolding finish
finish-keeps more last t (simple.Say given) values unknown = λ done. refl
finish-keeps more last t (simple.Assign name expr) values unknown = λ done. ap w.Done (assigns-with more last t ((name, first_value values) ∷ []))
finish-keeps more last t (simple.Message expr) values unknown = λ done. ap w.Done (assigns-with more last t ((Simple (codes "RESULT"), first_value values) ∷ []))
finish-keeps more last t (simple.Return given) values unknown = λ done. ap w.Done (ended-with more last t.world t.number t.frame (first_value values))
finish-keeps more last t (simple.Expose names) values unknown = λ done. ap w.Done (exposes-with more last t names t.frame.own)
finish-keeps more last t (simple.UseArg strict parameters) values unknown = λ done. ap w.Done (assigns-with more last t (rows parameters t.frame.arguments values))
finish-keeps more last t (simple.Parse parse) values unknown =
    parses-keep more last t parse values (bound_all (variables_at t.world.activities t.number) t.world.pools parse.templates) unknown
finish-keeps more last t (simple.Push given) values unknown = λ done. refl
finish-keeps more last t (simple.Queue given) values unknown = λ done. refl
finish-keeps more last t (simple.Drop names) values unknown = λ done. ap w.Done (assigns-with more last t (map dropped names))
finish-keeps more last t (simple.Label name) values unknown = λ done. refl
finish-keeps more last t (simple.SendAssign receiver part expr) values unknown = λ done. refl
finish-keeps more last t simple.Nop values unknown = λ done. refl
finish-keeps more last t (simple.Leave name) values unknown = λ done. refl
finish-keeps more last t (simple.Iterate name) values unknown = λ done. refl
finish-keeps more last t (simple.Call routine) values unknown = λ done. refl
finish-keeps more last t (simple.CallOn trap) values unknown = λ done. refl
finish-keeps more last t (simple.CallOff condition) values unknown = λ done. refl
finish-keeps more last t (simple.Exit given) values unknown = λ done. refl
finish-keeps more last t (simple.Signal label) values unknown = λ done. refl
finish-keeps more last t (simple.SignalOn trap) values unknown = λ done. refl
finish-keeps more last t (simple.SignalOff condition) values unknown = λ done. refl
finish-keeps more last t (simple.Procedure names) values unknown = λ done. refl
finish-keeps more last t (simple.Digits given) values unknown = λ done. refl
finish-keeps more last t (simple.GuardOn given) values unknown = λ done. refl
finish-keeps more last t (simple.GuardOff given) values unknown = λ done. refl
finish-keeps more last t (simple.Reply given) values unknown = λ done. refl
finish-keeps more last t (simple.Forward forward) values unknown = λ done. refl
finish-keeps more last t (simple.RaiseSyntax number given) values unknown = λ done. refl
finish-keeps more last t (simple.RaiseUser name given value) values unknown = λ done. refl
finish-keeps more last t (simple.Trace setting) values unknown = λ done. refl

settle-keeps : (more : List (List ℕ)) (last : Bool) (t : Turn) (one : OneClause) (found : AllFound) → t.world.ended ≡ false
    → Keeps more last (settle t one found) (settle (turn_with more last t) one found)
settle-keeps more last t one (AllDone values) unknown = finish-keeps more last t one values unknown
settle-keeps more last t one (AllRaise number) unknown = λ done. ap w.Done (raised-with more last t.world t.number number (line t))
settle-keeps more last t one (AllNoValue name) unknown = λ done. refl
settle-keeps more last t one (AllCall pending trees) unknown =
    λ done. ap w.Done (calls-with more last (awaits t (awaited_by one pending.awaited trees) trees) t.number (line t) pending.sent)

stretch-keeps : (more : List (List ℕ)) (last : Bool) (t : Turn) (one : OneClause) (trees : Trees) → t.world.ended ≡ false
    → Keeps more last (stretch t one trees) (stretch (turn_with more last t) one trees)
unfolding comes_to
stretch-keeps more last t one trees unknown = settle-keeps more last t one (comes_to t.world t.number t.frame trees) unknown

starts-keep : (more : List (List ℕ)) (last : Bool) (t : Turn) (one : OneClause) (number : Option ℕ) → t.world.ended ≡ false
    → Keeps more last (starts t one number) (starts (turn_with more last t) one number)
starts-keep more last t one None unknown = stretch-keeps more last t one (trees_of t.frame.arguments one) unknown
starts-keep more last t one (Some number) unknown = λ done. ap w.Done (raised-with more last t.world t.number number (line t))

resumes-keep : (more : List (List ℕ)) (last : Bool) (t : Turn) (one : OneClause) (by : Resumed) → t.world.ended ≡ false
    → Keeps more last (resumes t one by) (resumes (turn_with more last t) one by)
resumes-keep more last t one (Left trees) unknown = stretch-keeps more last t one trees unknown
resumes-keep more last t one Without unknown = finish-keeps more last t one [] unknown
resumes-keep more last t one (answers.Raises number) unknown = λ done. ap w.Done (raised-with more last t.world t.number number (line t))

goes-by-keeps : (more : List (List ℕ)) (last : Bool) (t : Turn) (state : CallState) (one : OneClause) → t.world.ended ≡ false
    → Keeps more last (goes_by t state one) (goes_by (turn_with more last t) state one)
goes-by-keeps more last t NoCall one unknown = starts-keep more last t one (refused t.frame one) unknown
goes-by-keeps more last t (Awaiting how) one unknown = λ done. refl
goes-by-keeps more last t (Answered how answer) one unknown = resumes-keep more last t one (resumed how answer t.frame.todo.trees) unknown

goes-keep : (more : List (List ℕ)) (last : Bool) (t : Turn) (by : Rule) → t.world.ended ≡ false
    → Keeps more last (goes t by) (goes (turn_with more last t) by)
goes-keep more last t (Does one) unknown = goes-by-keeps more last t t.frame.todo.call one unknown
goes-keep more last t (Begins clauses) unknown = λ done. refl
goes-keep more last t (Asks test one other) unknown = λ done. refl
goes-keep more last t (Loops header test clauses) unknown = λ done. refl
goes-keep more last t Fails unknown = λ done. refl

-- ---- steps

items-keep : (more : List (List ℕ)) (last : Bool) (v : World) (a : ℕ) (frame : Frame Todo) (items : List Item) → v.ended ≡ false
    → Keeps more last (step_items v a frame items) (step_items (with_more more last v) a frame items)
items-keep more last v a frame [] unknown = λ done. ap w.Done (ended-with more last v a frame None)
items-keep more last v a frame (item ∷ rest) unknown = goes-keep more last (turn v a frame item rest) (rule_of item) unknown

if-keeps : (more : List (List ℕ)) (last : Bool) (test : Bool) (one other longer : Stepped) (next : World) → one ≡ w.Done next
    → Keeps more last other longer
    → Keeps more last (if test then one else other) (if test then w.Done (with_more more last next) else longer)
if-keeps more last true one other longer next is keeps done = sym (ap (stepped_with more last) is)
if-keeps more last false one other longer next is keeps done = keeps done

frame-keeps : (more : List (List ℕ)) (last : Bool) (v : World) (a : ℕ) (frame : Frame Todo) → v.ended ≡ false
    → Keeps more last (step_frame v a frame) (step_frame (with_more more last v) a frame)
frame-keeps more last v a frame unknown =
    if-keeps more last frame.asks (w.Done (takes v a frame)) (step_items v a frame (past_labels frame.todo.items))
    (step_items (with_more more last v) a frame (past_labels frame.todo.items)) (takes v a frame) refl
    (items-keep more last v a frame (past_labels frame.todo.items) unknown)

frames-keep : (more : List (List ℕ)) (last : Bool) (v : World) (a : ℕ) (frames : List (Frame Todo)) → v.ended ≡ false
    → Keeps more last (step_frames v a frames) (step_frames (with_more more last v) a frames)
frames-keep more last v a [] unknown = λ done. ap w.Done (first-of-with more last v a (first_message (activity_at v.activities a)))
frames-keep more last v a (frame ∷ frames) unknown = frame-keeps more last v a frame unknown

pub step-with : (more : List (List ℕ)) (last : Bool) (v : World) (a : ℕ) → v.ended ≡ false → is_done (step v a) ≡ true
    → step (with_more more last v) a ≡ stepped_with more last (step v a)
step-with more last v a unknown = frames-keep more last (counted v) a (frames_at v.activities a) unknown

after-done : (more : List (List ℕ)) (last : Bool) (v : World) (stepped : Stepped) → is_done stepped ≡ true
    → world_after (with_more more last v) (stepped_with more last stepped) ≡ with_more more last (world_after v stepped)
after-done more last v (w.Done next) done = refl
after-done more last v WantsLine done = cc

pub after-with : (more : List (List ℕ)) (last : Bool) (v : World) (a : ℕ) → v.ended ≡ false → is_done (step v a) ≡ true
    → after (with_more more last v) a ≡ with_more more last (after v a)
after-with more last v a unknown done =
    ap (world_after (with_more more last v)) (step-with more last v a unknown done) ∙ after-done more last v (step v a) done

-- which activities are enabled doesn't depend on input
pub enabled-with : (more : List (List ℕ)) (last : Bool) (v : World) (a : ℕ) → enabled (with_more more last v) a ≡ enabled v a
unfolding holder_before
enabled-with more last v a = refl

-- round robin doesn't depend on input
pub robin-with : (more : List (List ℕ)) (last : Bool) (v : World) (before : ℕ) → robin (with_more more last v) before ≡ robin v before
unfolding holder_before
robin-with more last v before = refl

-- how a world stands doesn't depend on input
pub end-with : (more : List (List ℕ)) (last : Bool) (v : World) → end (with_more more last v) ≡ end v
unfolding holder_before
end-with more last v = refl

both-so : (one two : Bool) → one ≡ true → two ≡ true → (one && two) ≡ true
both-so true two first second = second
both-so false two first second = first

all-so : (one two three : Bool) → one ≡ true → two ≡ true → three ≡ true → (one && (two && three)) ≡ true
all-so true true three first second third = third
all-so true false three first second third = second
all-so false two three first second third = first

is_done-with : (more : List (List ℕ)) (last : Bool) (stepped : Stepped) → is_done stepped ≡ true → is_done (stepped_with more last stepped) ≡ true
is_done-with more last (w.Done next) done = refl
is_done-with more last WantsLine done = cc

-- a pick that may be taken may be taken with more input
pub may_pick-with : (more : List (List ℕ)) (last : Bool) (v : World) (a : ℕ) → v.ended ≡ false → IsTrue (may_pick v a) → IsTrue (may_pick (with_more more last v) a)
may_pick-with more last v a unknown may =
    let rest : (is_going (end v) && is_done (step v a)) ≡ true = second_so (enabled v a) _ may in
    let done : is_done (step v a) ≡ true = second_so (is_going (end v)) _ rest in
    all-so (enabled (with_more more last v) a) (is_going (end (with_more more last v))) (is_done (step (with_more more last v) a))
    (enabled-with more last v a ∙ first_so (enabled v a) _ may)
    (ap is_going (end-with more last v) ∙ first_so (is_going (end v)) _ rest)
    (ap is_done (step-with more last v a unknown done) ∙ is_done-with more last (step v a) done)

pub done-of : (v : World) (a : ℕ) → IsTrue (may_pick v a) → is_done (step v a) ≡ true
done-of v a may = second_so (is_going (end v)) _ (second_so (enabled v a) _ may)

-- a step leaves the end of input as known as it was
ended-by : (v : World) (a : ℕ) → v.ended ≡ false → (after v a).ended ≡ false
ended-by v a unknown = after-ended v a ∙ unknown

-- picks are legal with more input, and lead to the same world but for it
pub more-input-keeps-runs : (more : List (List ℕ)) (last : Bool) (v : World) (picks : List ℕ)
    → v.ended ≡ false → IsTrue (legal v picks)
    → IsTrue (legal (with_more more last v) picks) × (run (with_more more last v) picks ≡ with_more more last (run v picks))
more-input-keeps-runs more last v [] unknown is_legal = (refl, refl)
more-input-keeps-runs more last v (a ∷ picks) unknown is_legal =
    let may : IsTrue (may_pick v a) = first_so (may_pick v a) _ is_legal in
    let same : after (with_more more last v) a ≡ with_more more last (after v a) = after-with more last v a unknown (done-of v a may) in
    let later : IsTrue (legal (with_more more last (after v a)) picks) × (run (with_more more last (after v a)) picks ≡ with_more more last (run (after v a) picks)) =
    more-input-keeps-runs more last (after v a) picks (ended-by v a unknown) (second_so (may_pick v a) _ is_legal) in (
      both-so (may_pick (with_more more last v) a) _ (may_pick-with more last v a unknown may) (subst (λ (u : World). IsTrue (legal u picks)) (sym same) later.0),
      ap (λ (u : World). run u picks) same ∙ later.1,
    )

-- picks in a circle are in a circle with more input
pub more-input-keeps-the-circle : (more : List (List ℕ)) (last : Bool) (before : ℕ) (v : World) (picks : List ℕ)
    → v.ended ≡ false → IsTrue (legal v picks) → IsSerialAfter before v picks → IsSerialAfter before (with_more more last v) picks
more-input-keeps-the-circle more last before v [] unknown is_legal serial = tt
more-input-keeps-the-circle more last before v (a ∷ picks) unknown is_legal serial =
    let may : IsTrue (may_pick v a) = first_so (may_pick v a) _ is_legal in
    let same : after (with_more more last v) a ≡ with_more more last (after v a) = after-with more last v a unknown (done-of v a may) in (
      robin-with more last v before ∙ serial.0,
      subst (λ (u : World). IsSerialAfter a u picks) (sym same)
          (more-input-keeps-the-circle more last a (after v a) picks (ended-by v a unknown) (second_so (may_pick v a) _ is_legal) serial.1),
    )

-- a serial run is one with more input too
pub SerialRun-with : (more : List (List ℕ)) (last : Bool) (from : World) (picks : List ℕ) (to : World) → from.ended ≡ false
    → SerialRun from picks to → SerialRun (with_more more last from) picks (with_more more last to)
SerialRun-with more last from picks to unknown so_far = record {
  legal = (more-input-keeps-runs more last from picks unknown so_far.legal).0;
  leads = (more-input-keeps-runs more last from picks unknown so_far.legal).1 ∙ ap (with_more more last) so_far.leads;
  serial = more-input-keeps-the-circle more last 0 from picks unknown so_far.legal so_far.serial;
}
