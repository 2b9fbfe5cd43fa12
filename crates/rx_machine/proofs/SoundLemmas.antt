-- Each step keeps a world sound: a pool is taken only while no other activity holds it.
use Rattle.std.proofs.Common.{◌≡◌, ℕ, zero, suc, ◌+◌, Bool, true, false, not, ◌&&◌, inl, inr, List, [], ◌∷◌, ◌++◌, Option, None, Some, Result, Ok, Err, refl, sym, ◌∙◌, ap, subst, arith}
use Rattle.std.specs.Prelude.{IsTrue, ◌==◌, codes, if◌then◌else◌, is_none, map, option_map, slice_get, slice_set}
use Rattle.std.specs.Cmp.{first_so, second_so}
use Rattle.std.proofs.lemmas.Bool.{false≢true, eqb-true}
use Rattle.rx_tree.specs.Object.{Contents, Plain, ClassObject, Places, Line, Names, Message}
use Rattle.rx_tree.specs.declared.name.Derived.{Derived}
use Rattle.rx_tree.specs.declared.name.Name.{Name}
use Rattle.rx_tree.specs.declared.name.Name.TheVariants.{Simple}
use Rattle.rx_tree.specs.declared.value.Value.{Value}
use Rattle.rx_tree.specs.declared.value.Value.TheVariants.{Ref}
use Rattle.rx_clause_tree.specs.declared.package.Package.{Package}
use Rattle.rx_clause_tree.specs.declared.simple.Simple.{Simple as OneClause}
use Rattle.rx_clause_tree.specs.declared.simple.Simple.TheVariants as simple
use Rattle.rx_clause_tree.specs.declared.template.Parse.{Parse}
use Rattle.rx_clause_tree.specs.declared.template.ParseFrom.{ParseFrom}
use Rattle.rx_clause_tree.specs.declared.template.ParseFrom.TheVariants as from
use Rattle.rx_clause_tree.specs.declared.template.Template.{Template}
use Rattle.rx_template.specs.declared.template.TPart.{TPart}
use Rattle.rx_heap.specs.Objects.{contents_at}
use Rattle.rx_frames.specs.declared.activity.Wait.TheVariants as given_wait
use Rattle.rx_frames.specs.declared.parts.Own.{Own}
use Rattle.rx_frames.specs.declared.position.CallState.{CallState}
use Rattle.rx_frames.specs.declared.position.CallState.TheVariants.{NoCall, Awaiting, Answered}
use Rattle.rx_frames.specs.Frames.{Doing, Frame, with_todo, with_value}
use Rattle.rx_frames.specs.Activities.{Activity, State, NotLive, Live, Over, activity_at, asked, first_message, frames_at, frames_of, waiting, with_change_at, with_top_changed, with_value_below}
use Rattle.rx_names.specs.declared.home.Home.{Home}
use Rattle.rx_names.specs.declared.home.Home.TheVariants as lives
use Rattle.rx_names.specs.Homes.{activities_with, home, variables_at}
use Rattle.rx_flow.specs.Rules.{Rule, Does, Begins, Asks, Loops, Fails}
use Rattle.rx_flow.specs.Todo.{Item, past_labels}
use Rattle.rx_eval.specs.declared.call.Sent.{Sent as Called}
use Rattle.rx_eval.specs.declared.call.Sent.TheVariants as call
use Rattle.rx_eval.specs.Evaluation.{AllFound, AllDone, AllRaise, AllNoValue, AllCall}
use Rattle.rx_sends.specs.declared.call.Call.{Call}
use Rattle.rx_sends.specs.declared.parts.Sent.{Sent}
use Rattle.rx_sends.specs.declared.reply.Reply.{Reply}
use Rattle.rx_sends.specs.declared.reply.Reply.TheVariants.{Gives, Calls, Starts}
use Rattle.rx_sends.specs.Parts.{Parts}
use Rattle.rx_sends.specs.Replies.{Delivery}
use Rattle.rx_sends.specs.Replies as d
use Rattle.rx_sends.specs.Sending.{answered_above, begun, given, given_to, sending_by, sent, started, traps_no_method, with_reply, with_top as with_pushed, with_wait}
use Rattle.rx_sends.specs.Sending as s
use Rattle.rx_machine.specs.Todo.{Todo, by_clauses}
use Rattle.rx_machine.specs.World as w
use Rattle.rx_machine.specs.World.{World, Stepped, WantsLine, counted, parts_of, with_parts, with_top}
use Rattle.rx_machine.specs.Turns.{Turn, awaits, goes_on, line}
use Rattle.rx_machine.specs.Ending.{ended, given_by, handed, without_top}
use Rattle.rx_machine.specs.Raising.{over, raised}
use Rattle.rx_machine.specs.Sending.{calls, first_of, first_sent, message, sending_of, sends, sends_first}
use Rattle.rx_machine.specs.Scenes.{comes_to}
use Rattle.rx_machine.specs.Assigning.{Assigned, All, TooLong, assign_from, assigns, derived, expose_from, exposing, finished, is_too_long, with_exposed, with_value as with_value_at}
use Rattle.rx_machine.specs.Values.{first_value}
use Rattle.rx_machine.specs.Arguments.{rows}
use Rattle.rx_machine.specs.Variables.{dropped, exposes_by}
use Rattle.rx_machine.specs.Templates.{all_rows, alone, bound_all, cuts, from_input, from_queue, in_case, input_line, parses_bound, pulled_line, texts_from}
use Rattle.rx_machine.specs.Answers as answers
use Rattle.rx_machine.specs.Answers.{Resumed, Left, Without, awaited_by, resumed}
use Rattle.rx_machine.specs.Clauses.{finish, refused, trees_of}
use Rattle.rx_machine.specs.Step.{goes, goes_by, resumes, rule_of, settle, starts, step, step_frames, step_items, takes, turn}
use Rattle.rx_machine.specs.Enabled.{holder_before, holder_from, holder_of, holds, is_live, is_on, may_step_at}
use Rattle.rx_machine.specs.Opening.{opening, main_frame}
use Rattle.rx_machine.specs.Runs.{after, legal, may_pick, run, world_after}
use Rattle.rx_machine.specs.Sound.{AsksRightly, FramesFit, NoneAsks, OnlyTopAsks, Sound}
use Rattle.rx_machine.proofs.ChangeLemmas.{Alike, IsNew, Keeps, change-cases, change-twice, changed-alike, changed-at, fine-alike, fine-over, fine-popped, fine-pushed, fine-resting, keeps-changed, keeps-more, keeps-same, keeps-then, set-alike, sound-kept}
use Rattle.rx_machine.proofs.HoldLemmas.{holds-cases, holds-others}
use Rattle.rx_machine.proofs.RunLemmas.{picks-are-enabled}

-- a frame whose to-do or variables are others
rightly-so : (old new : Frame Todo) → new.kind ≡ old.kind → new.own ≡ old.own → new.reserves ≡ old.reserves → AsksRightly old → AsksRightly new
rightly-so old new kind own reserves rightly = record {
  kind = kind ∙ rightly.kind;
  owner = rightly.owner;
  own = own ∙ rightly.own;
  reserves = reserves ∙ rightly.reserves;
}

todo-alike : (frame : Frame Todo) (todo : Todo) → Alike frame (record frame { todo = todo })
todo-alike frame todo = record { reserved = λ pool. refl; asked = refl; rightly = rightly-so frame _ refl refl refl }

value-alike : (name : Derived) (value : Option Value) (frame : Frame Todo) → Alike frame (with_value name value frame)
value-alike name value frame = record { reserved = λ pool. refl; asked = refl; rightly = rightly-so frame _ refl refl refl }

exposing-alike : (name : Derived) (pool : ℕ) (frame : Frame Todo) → Alike frame (exposing name pool frame)
exposing-alike name pool frame = record { reserved = λ p. refl; asked = refl; rightly = rightly-so frame _ refl refl refl }

-- the frames of an activity that is there
frames-there : (activities : List (Activity Todo)) (a : ℕ) (x : Activity Todo) → activity_at activities a ≡ Some x → frames_at activities a ≡ x.frames
frames-there activities a x at = ap frames_of at

-- ---- messages

-- none of the activity's frames asks
abbrev Quiet : List (Activity Todo) → ℕ → Type 0
Quiet activities a = (x : Activity Todo) → activity_at activities a ≡ Some x → NoneAsks x.frames

answered-keeps : (doing : Doing Todo) (activities : List (Activity Todo)) (a : ℕ) (value : Option Value) → Keeps activities (answered_above doing activities a value)
answered-keeps doing activities a value =
    keeps-changed activities a (with_top_changed (with_todo (doing.answered value)))
    (λ x at. fine-alike x _ (changed-alike x.frames 0 (with_todo (doing.answered value)) (λ frame. todo-alike frame (doing.answered value frame.todo))))

resting-keeps : (activities : List (Activity Todo)) (a : ℕ) → Keeps activities (with_wait activities a given_wait.Nothing)
resting-keeps activities a = keeps-changed activities a (λ (x : Activity Todo). waiting given_wait.Nothing x.frames) (λ x at. fine-resting x)

given-keeps : (doing : Doing Todo) (parts : Parts Todo) (a : ℕ) (value : Option Value) (frames : List (Frame Todo))
    → Keeps parts.activities (given_to doing parts a value frames).activities
given-keeps doing parts a value [] = resting-keeps parts.activities a
given-keeps doing parts a value (frame ∷ frames) = answered-keeps doing parts.activities a value

pushed-keeps : (activities : List (Activity Todo)) (a : ℕ) (frame : Frame Todo) → Quiet activities a → frame.reserves ≡ false → (frame.asks ≡ true → AsksRightly frame)
    → Keeps activities (with_wait (with_pushed activities a frame) a given_wait.Nothing)
pushed-keeps activities a frame quiet free rightly =
    subst (Keeps activities) (sym (change-twice activities a _ _))
    (keeps-changed activities a _ (λ x at. fine-pushed x frame (frame ∷ frames_at activities a)
    (ap (λ (fs : List (Frame Todo)). frame ∷ fs) (frames-there activities a x at)) (quiet x at) free rightly))

begun-keeps : (doing : Doing Todo) (parts : Parts Todo) (a : ℕ) (one : Call) → Quiet parts.activities a → Keeps parts.activities (begun doing parts a one).activities
begun-keeps doing parts a one quiet =
    pushed-keeps parts.activities a _ quiet refl (λ on. record { kind = refl; owner = _; own = refl; reserves = refl })

new-one : (number : ℕ) → IsNew (waiting (given_wait.First number) [])
new-one number = record { none = λ pool held. false≢true held; asks = tt; fits = (number, refl) }

started-keeps : (doing : Doing Todo) (parts : Parts Todo) (a number : ℕ) → Keeps parts.activities (started doing parts a number).activities
started-keeps doing parts a number =
    let more : List (Activity Todo) = parts.activities ++ waiting (given_wait.First number) [] ∷ [] in
    keeps-then parts.activities more _ (keeps-more parts.activities _ (new-one number))
    (given-keeps doing (record parts { activities = more }) a (Some (Ref number)) (frames_at more a))

reply-keeps : (doing : Doing Todo) (parts : Parts Todo) (a : ℕ) (reply : Reply) → Quiet parts.activities a → Keeps parts.activities (with_reply doing parts a reply).activities
reply-keeps doing parts a (Gives value) quiet = given-keeps doing parts a value (frames_at parts.activities a)
reply-keeps doing parts a (Calls one) quiet = begun-keeps doing parts a one quiet
reply-keeps doing parts a (Starts number) quiet = started-keeps doing parts a number

raised-keeps : (v : World) (a number at : ℕ) → Keeps v.activities (raised v a number at).activities
unfolding raised
raised-keeps v a number at = keeps-changed v.activities a over (λ x there. fine-over x)

trapped-keeps : (v : World) (a at : ℕ) (trapped : Bool) (parts : Parts Todo) (number : ℕ) → parts.activities ≡ v.activities
    → Keeps v.activities (sending_of v a at (if trapped then s.NoMethod parts else s.Raises number parts)).activities
trapped-keeps v a at true parts number is =
    subst (λ (old : List (Activity Todo)). Keeps old (sending_of v a at (s.NoMethod parts)).activities) is (raised-keeps (with_parts v parts) a _ at)
trapped-keeps v a at false parts number is =
    subst (λ (old : List (Activity Todo)). Keeps old (sending_of v a at (s.Raises number parts)).activities) is (raised-keeps (with_parts v parts) a number at)

delivery-keeps : (v : World) (a at : ℕ) (one : Delivery) → Quiet v.activities a
    → Keeps v.activities (sending_of v a at (sending_by (by_clauses v.program) (parts_of v) a one)).activities
delivery-keeps v a at (d.Replies reply objects) quiet = reply-keeps (by_clauses v.program) (record (parts_of v) { objects = objects }) a reply quiet
delivery-keeps v a at (d.Raises number objects) quiet = raised-keeps (with_parts v (record (parts_of v) { objects = objects })) a number at
delivery-keeps v a at (d.NoMethod objects) quiet =
    trapped-keeps v a at (traps_no_method (frames_at v.activities a)) (record (parts_of v) { objects = objects }) _ refl

sends-keeps : (v : World) (a at : ℕ) (one : Sent) → Quiet v.activities a → Keeps v.activities (sends v a at one).activities
unfolding sends
sends-keeps v a at one quiet = delivery-keeps v a at _ quiet

calls-keep : (v : World) (a at : ℕ) (one : Called) → Quiet v.activities a → Keeps v.activities (calls v a at one).activities
calls-keep v a at (call.Message target name above args) quiet = sends-keeps v a at (message target name above args) quiet
calls-keep v a at (call.Label name args) quiet = keeps-same v.activities
calls-keep v a at (call.Routine name args) quiet = keeps-same v.activities

first-keeps : (v : World) (a : ℕ) (contents : Contents) → Quiet v.activities a → Keeps v.activities (first_sent v a contents).activities
first-keeps v a (Message sending) quiet = sends-keeps v a 0 (message sending.target sending.name None sending.args) quiet
first-keeps v a Plain quiet = keeps-same v.activities
first-keeps v a ClassObject quiet = keeps-same v.activities
first-keeps v a (Places places) quiet = keeps-same v.activities
first-keeps v a (Line items) quiet = keeps-same v.activities
first-keeps v a (Names entries) quiet = keeps-same v.activities

first-of-keeps : (v : World) (a : ℕ) (number : Option ℕ) → Quiet v.activities a → Keeps v.activities (first_of v a number).activities
first-of-keeps v a None quiet = keeps-same v.activities
first-of-keeps v a (Some number) quiet = first-keeps v a (contents_at v.objects number) quiet

-- ---- frames that end

handed-keeps : (v : World) (a : ℕ) (value : Option Value) (frames : List (Frame Todo)) → Keeps v.activities (handed v a value frames).activities
handed-keeps v a value [] = keeps-same v.activities
handed-keeps v a value (frame ∷ frames) = answered-keeps (by_clauses v.program) v.activities a value

ended-keeps : (v : World) (a : ℕ) (frame : Frame Todo) (value : Option Value) → Keeps v.activities (ended v a frame value).activities
unfolding ended
ended-keeps v a frame value =
    keeps-then v.activities (with_change_at v.activities a without_top) _ (keeps-changed v.activities a without_top (λ x at. fine-popped x))
    (handed-keeps _ a (given_by frame value) (frames_at (with_change_at v.activities a without_top) a))

-- ---- variables

value-keeps : (activities : List (Activity Todo)) (a : ℕ) (at : Home) (name : Derived) (value : Option Value)
    → Keeps activities (activities_with activities a at name value)
value-keeps activities a (lives.Frame down) name value =
    keeps-changed activities a (with_value_below down name value)
    (λ x there. fine-alike x _ (changed-alike x.frames down (with_value name value) (value-alike name value)))
value-keeps activities a (lives.Pool pool) name value = keeps-same activities

exposed-keeps : (v : World) (a pool : ℕ) (name : Derived) → Keeps v.activities (with_exposed v a pool name).activities
exposed-keeps v a pool name =
    keeps-changed v.activities a (with_top_changed (exposing name pool))
    (λ x there. fine-alike x _ (changed-alike x.frames 0 (exposing name pool) (exposing-alike name pool)))

abbrev AllKeeps : List (Activity Todo) → Assigned → Type 0
AllKeeps old (All v) = Keeps old v.activities
AllKeeps old (TooLong v) = Keeps old v.activities

if-keeps : (old : List (Activity Todo)) (test : Bool) (one other : Assigned) → AllKeeps old one → AllKeeps old other → AllKeeps old (if test then one else other)
if-keeps old true one other first second = first
if-keeps old false one other first second = second

all-then : (old mid : List (Activity Todo)) (one : Assigned) → Keeps old mid → AllKeeps mid one → AllKeeps old one
all-then old mid (All v) first second = keeps-then old mid v.activities first second
all-then old mid (TooLong v) first second = keeps-then old mid v.activities first second

assign-keeps : (v : World) (a : ℕ) (rows : List (Name × Option Value)) → AllKeeps v.activities (assign_from v a rows)
assign-keeps v a [] = keeps-same v.activities
assign-keeps v a (row ∷ rows) =
    let name : Derived = derived v a row.0 in
    let next : World = with_value_at v a name row.1 in
    if-keeps v.activities (is_too_long name) (TooLong v) (assign_from next a rows) (keeps-same v.activities)
    (all-then v.activities next.activities (assign_from next a rows)
    (value-keeps v.activities a (home (variables_at v.activities a) name) name row.1) (assign-keeps next a rows))

expose-keeps : (v : World) (a pool : ℕ) (names : List Name) → AllKeeps v.activities (expose_from v a pool names)
expose-keeps v a pool [] = keeps-same v.activities
expose-keeps v a pool (one ∷ names) =
    let name : Derived = derived v a one in
    let next : World = with_exposed v a pool name in
    if-keeps v.activities (is_too_long name) (TooLong v) (expose_from next a pool names) (keeps-same v.activities)
    (all-then v.activities next.activities (expose_from next a pool names) (exposed-keeps v a pool name) (expose-keeps next a pool names))

finished-keeps : (t : Turn) (old : List (Activity Todo)) (one : Assigned) → AllKeeps old one → Keeps old (finished t one).activities
finished-keeps t old (All v) keeps = keeps
finished-keeps t old (TooLong v) keeps = keeps-then old v.activities _ keeps (raised-keeps v t.number _ (line t))

-- ---- a turn: its frame is on top of the activity's, and none of these asks

pub record IsTurn (t : Turn) : Type 0 where
  pub beneath : List (Frame Todo)
  pub top : (x : Activity Todo) → activity_at t.world.activities t.number ≡ Some x → x.frames ≡ t.frame ∷ beneath
  pub quiet : NoneAsks (t.frame ∷ beneath)

todo-keeps : (t : Turn) (todo : Todo) → IsTurn t → Keeps t.world.activities (with_top t.world t.number (record t.frame { todo = todo })).activities
todo-keeps t todo is =
    keeps-changed t.world.activities t.number _
    (λ x at. fine-alike x _ (set-alike x.frames t.frame (record t.frame { todo = todo }) is.beneath (is.top x at) (todo-alike t.frame todo)))

goes-on-keeps : (t : Turn) → IsTurn t → Keeps t.world.activities (goes_on t).activities
goes-on-keeps t is = todo-keeps t _ is

todo-quiet : (t : Turn) (todo : Todo) → IsTurn t → Quiet (with_top t.world t.number (record t.frame { todo = todo })).activities t.number
todo-quiet t todo is y at =
    let found = changed-at t.world.activities t.number (λ (x : Activity Todo). record x { frames = slice_set x.frames 0 (record t.frame { todo = todo }) }) y at in
    let frames : y.frames ≡ record t.frame { todo = todo } ∷ is.beneath =
    ap (λ (z : Activity Todo). z.frames) found.2 ∙ ap (λ (fs : List (Frame Todo)). slice_set fs 0 (record t.frame { todo = todo })) (is.top found.0 found.1) in
    subst NoneAsks (sym frames) (is.quiet.0, is.quiet.1)

assigns-keep : (t : Turn) (rows : List (Name × Option Value)) → IsTurn t → Keeps t.world.activities (assigns t rows).activities
assigns-keep t rows is =
    keeps-then t.world.activities (goes_on t).activities _ (goes-on-keeps t is)
    (finished-keeps t (goes_on t).activities (assign_from (goes_on t) t.number rows) (assign-keeps (goes_on t) t.number rows))

exposes-keep : (t : Turn) (names : List Name) (own : Option Own) → IsTurn t → Keeps t.world.activities (exposes_by t names own).activities
exposes-keep t names None is = goes-on-keeps t is
exposes-keep t names (Some own) is =
    keeps-then t.world.activities (goes_on t).activities _ (goes-on-keeps t is)
    (finished-keeps t (goes_on t).activities (expose_from (goes_on t) t.number own.pool names) (expose-keeps (goes_on t) t.number own.pool names))

-- ---- lines that are read

abbrev StepKeeps : List (Activity Todo) → Stepped → Type 0
StepKeeps old (w.Done v) = Keeps old v.activities
StepKeeps old WantsLine = Unit {0}

-- no activity is changed
abbrev TakenSame : World → Option (List (List ℕ) × World) → Type 0
TakenSame v None = Unit {0}
TakenSame v (Some taken) = taken.1.activities ≡ v.activities

abbrev LineSame : World → Option (List ℕ × World) → Type 0
LineSame v None = Unit {0}
LineSame v (Some taken) = taken.1.activities ≡ v.activities

if-line : (v : World) (test : Bool) (one : List ℕ × World) → one.1.activities ≡ v.activities → LineSame v (if test then Some one else None)
if-line v true one is = is
if-line v false one is = tt

input-same : (v : World) (lines : List (List ℕ)) → LineSame v (from_input v lines)
input-same v [] = if-line v v.ended ([], v) refl
input-same v (line ∷ lines) = refl

queue-same : (v : World) (lines : List (List ℕ)) → LineSame v (from_queue v lines)
queue-same v [] = input-same v v.rest
queue-same v (line ∷ lines) = refl

alone-same : (v : World) (taken : Option (List ℕ × World)) → LineSame v taken → TakenSame v (option_map alone taken)
alone-same v None is = tt
alone-same v (Some taken) is = is

texts-same : (t : Turn) (values : List Value) (origin : ParseFrom) → TakenSame t.world (texts_from t values origin)
texts-same t values from.Arg = refl
texts-same t values from.Pull = alone-same t.world (pulled_line t.world) (queue-same t.world t.world.queue)
texts-same t values from.LineIn = alone-same t.world (input_line t.world) (input-same t.world t.world.rest)
texts-same t values (from.Var name) = refl
texts-same t values (from.Value expr) = refl

same-turn : (t : Turn) (v : World) → v.activities ≡ t.world.activities → IsTurn t → IsTurn (record t { world = v })
same-turn t v is turns = record {
  beneath = turns.beneath;
  top = λ x at. turns.top x (ap (λ (xs : List (Activity Todo)). activity_at xs t.number) (sym is) ∙ at);
  quiet = turns.quiet;
}

cuts-keep : (t : Turn) (upper : Bool) (bound : List (Template × List TPart)) (taken : Option (List (List ℕ) × World)) → TakenSame t.world taken → IsTurn t
    → StepKeeps t.world.activities (cuts t upper bound taken)
cuts-keep t upper bound None same is = tt
cuts-keep t upper bound (Some taken) same is =
    let pieces : List (Name × Option Value) = all_rows bound (in_case upper taken.0) in
    subst (λ (old : List (Activity Todo)). Keeps old (assigns (record t { world = taken.1 }) pieces).activities) same
    (assigns-keep (record t { world = taken.1 }) pieces (same-turn t taken.1 same is))

parses-keep : (t : Turn) (parse : Parse) (values : List Value) (bound : Result (List (Template × List TPart)) ℕ) → IsTurn t
    → StepKeeps t.world.activities (parses_bound t parse values bound)
parses-keep t parse values (Err number) is = raised-keeps t.world t.number number (line t)
parses-keep t parse values (Ok bound) is = cuts-keep t parse.upper bound (texts_from t values parse.from) (texts-same t values parse.from) is

-- ---- clauses

finish-keeps : (t : Turn) (one : OneClause) (values : List Value) → IsTurn t → StepKeeps t.world.activities (finish t one values)
unfolding finish
finish-keeps t (simple.Say given) values is = goes-on-keeps t is
finish-keeps t (simple.Assign name expr) values is = assigns-keep t ((name, first_value values) ∷ []) is
finish-keeps t (simple.Message expr) values is = assigns-keep t ((Simple (codes "RESULT"), first_value values) ∷ []) is
finish-keeps t (simple.Return given) values is = ended-keeps t.world t.number t.frame (first_value values)
finish-keeps t (simple.Expose names) values is = exposes-keep t names t.frame.own is
finish-keeps t (simple.UseArg strict parameters) values is = assigns-keep t (rows parameters t.frame.arguments values) is
finish-keeps t (simple.Parse parse) values is = parses-keep t parse values (bound_all (variables_at t.world.activities t.number) t.world.pools parse.templates) is
finish-keeps t (simple.Push given) values is = goes-on-keeps t is
finish-keeps t (simple.Queue given) values is = goes-on-keeps t is
finish-keeps t (simple.Drop names) values is = assigns-keep t (map dropped names) is
finish-keeps t (simple.Label name) values is = goes-on-keeps t is
finish-keeps t (simple.SendAssign receiver part expr) values is = goes-on-keeps t is
finish-keeps t simple.Nop values is = goes-on-keeps t is
finish-keeps t (simple.Leave name) values is = goes-on-keeps t is
finish-keeps t (simple.Iterate name) values is = goes-on-keeps t is
finish-keeps t (simple.Call routine) values is = goes-on-keeps t is
finish-keeps t (simple.CallOn trap) values is = goes-on-keeps t is
finish-keeps t (simple.CallOff condition) values is = goes-on-keeps t is
finish-keeps t (simple.Exit given) values is = goes-on-keeps t is
finish-keeps t (simple.Signal label) values is = goes-on-keeps t is
finish-keeps t (simple.SignalOn trap) values is = goes-on-keeps t is
finish-keeps t (simple.SignalOff condition) values is = goes-on-keeps t is
finish-keeps t (simple.Procedure names) values is = goes-on-keeps t is
finish-keeps t (simple.Digits given) values is = goes-on-keeps t is
finish-keeps t (simple.GuardOn given) values is = goes-on-keeps t is
finish-keeps t (simple.GuardOff given) values is = goes-on-keeps t is
finish-keeps t (simple.Reply given) values is = goes-on-keeps t is
finish-keeps t (simple.Forward forward) values is = goes-on-keeps t is
finish-keeps t (simple.RaiseSyntax number given) values is = goes-on-keeps t is
finish-keeps t (simple.RaiseUser name given value) values is = goes-on-keeps t is
finish-keeps t (simple.Trace setting) values is = goes-on-keeps t is

settle-keeps : (t : Turn) (one : OneClause) (found : AllFound) → IsTurn t → StepKeeps t.world.activities (settle t one found)
settle-keeps t one (AllDone values) is = finish-keeps t one values is
settle-keeps t one (AllRaise number) is = raised-keeps t.world t.number number (line t)
settle-keeps t one (AllNoValue name) is = goes-on-keeps t is
settle-keeps t one (AllCall pending trees) is =
    let next : World = awaits t (awaited_by one pending.awaited trees) trees in
    keeps-then t.world.activities next.activities _ (todo-keeps t _ is) (calls-keep next t.number (line t) pending.sent (todo-quiet t _ is))

starts-keep : (t : Turn) (one : OneClause) (number : Option ℕ) → IsTurn t → StepKeeps t.world.activities (starts t one number)
starts-keep t one None is = settle-keeps t one (comes_to t.world t.number t.frame (trees_of t.frame.arguments one)) is
starts-keep t one (Some number) is = raised-keeps t.world t.number number (line t)

resumes-keep : (t : Turn) (one : OneClause) (by : Resumed) → IsTurn t → StepKeeps t.world.activities (resumes t one by)
resumes-keep t one (Left trees) is = settle-keeps t one (comes_to t.world t.number t.frame trees) is
resumes-keep t one Without is = finish-keeps t one [] is
resumes-keep t one (answers.Raises number) is = raised-keeps t.world t.number number (line t)

goes-by-keeps : (t : Turn) (state : CallState) (one : OneClause) → IsTurn t → StepKeeps t.world.activities (goes_by t state one)
goes-by-keeps t NoCall one is = starts-keep t one (refused t.frame one) is
goes-by-keeps t (Awaiting how) one is = keeps-same t.world.activities
goes-by-keeps t (Answered how answer) one is = resumes-keep t one (resumed how answer t.frame.todo.trees) is

goes-keep : (t : Turn) (by : Rule) → IsTurn t → StepKeeps t.world.activities (goes t by)
goes-keep t (Does one) is = goes-by-keeps t t.frame.todo.call one is
goes-keep t (Begins clauses) is = goes-on-keeps t is
goes-keep t (Asks test one other) is = goes-on-keeps t is
goes-keep t (Loops header test clauses) is = goes-on-keeps t is
goes-keep t Fails is = goes-on-keeps t is

items-keep : (v : World) (a : ℕ) (frame : Frame Todo) (beneath : List (Frame Todo)) (items : List Item)
    → ((x : Activity Todo) → activity_at v.activities a ≡ Some x → x.frames ≡ frame ∷ beneath) → NoneAsks (frame ∷ beneath)
    → StepKeeps v.activities (step_items v a frame items)
items-keep v a frame beneath [] top quiet = ended-keeps v a frame None
items-keep v a frame beneath (item ∷ rest) top quiet =
    goes-keep (turn v a frame item rest) (rule_of item) (record { beneath = beneath; top = top; quiet = quiet })

-- ---- a frame that takes its pool

-- where no other activity than a is found to hold a pool, one that holds it is a
found-other : (test on : Bool) (n : ℕ) (later : Option ℕ) → on ≡ true → (if not test && on then Some n else later) ≡ None → test ≡ true
found-other true on n later held none = refl
found-other false true n later held none = cc
found-other false false n later held none = absurd (false≢true held)

found-later : (test : Bool) (n : ℕ) (later : Option ℕ) → (if test then Some n else later) ≡ None → later ≡ None
found-later true n later none = cc
found-later false n later none = none

nobody-else : (n : ℕ) (activities : List (Activity Todo)) (a pool place : ℕ) (y : Activity Todo) → holder_from n activities a pool ≡ None
    → slice_get activities place ≡ Some y → holds y.frames pool ≡ true → a ≡ n + place
nobody-else n [] a pool place y none at held = cc
nobody-else n (x ∷ activities) a pool zero y none at held =
    let is : x ≡ y = cc in
    let held_x : holds x.frames pool ≡ true = subst (λ (v : Activity Todo). holds v.frames pool ≡ true) (sym is) held in
    let number : n ≡ a = eqb-true n a (found-other (n == a) (holds x.frames pool) n _ held_x none) in
    omega arith
nobody-else n (x ∷ activities) a pool (suc place) y none at held =
    let rest : holder_from (n + 1) activities a pool ≡ None = found-later (not (n == a) && holds x.frames pool) n _ none in
    let later : a ≡ (n + 1) + place = nobody-else (n + 1) activities a pool place y rest at held in
    omega arith

alone-at : (activities : List (Activity Todo)) (a b pool : ℕ) (y : Activity Todo) → holder_from 1 activities a pool ≡ None
    → activity_at activities b ≡ Some y → holds y.frames pool ≡ true → a ≡ b
alone-at activities a zero pool y none at held = cc
alone-at activities a (suc place) pool y none at held =
    let found : a ≡ 1 + place = nobody-else 1 activities a pool place y none at held in
    omega arith

-- the frame that asks, with its pool
abbrev taken : Frame Todo → Frame Todo
taken frame = record frame { asks = false; reserves = true }

taken-alone : (v : World) (a : ℕ) (x : Activity Todo) (frame : Frame Todo) (frames : List (Frame Todo)) (pool b : ℕ) (y : Activity Todo)
    → Sound v → activity_at v.activities a ≡ Some x → x.frames ≡ frame ∷ frames → frame.asks ≡ true → AsksRightly frame → holder_before v a x ≡ None
    → holds (taken frame ∷ frames) pool ≡ true → activity_at v.activities b ≡ Some y → holds y.frames pool ≡ true → a ≡ b
unfolding holder_before
taken-alone v a x frame frames pool b y sound at is on rightly none held at_b held_b = elim (holds-cases (taken frame) frames pool held) [
  | inl first ↦
      let owned : (pool == rightly.owner.pool) ≡ true = sym (ap (is_on pool) rightly.own) ∙ first in
      let one : pool ≡ rightly.owner.pool = eqb-true pool rightly.owner.pool owned in
      let asks : asked x.frames ≡ Some rightly.owner = ap asked is ∙ ap (λ (b : Bool). if b then frame.own else None) on ∙ rightly.own in
      let nobody : holder_from 1 v.activities a rightly.owner.pool ≡ None = sym (ap (holder_of v.activities a) asks) ∙ none in
      alone-at v.activities a b rightly.owner.pool y nobody at_b (subst (λ (p : ℕ). holds y.frames p ≡ true) one held_b)
  | inr others ↦
      sound.one_holder a b x y pool at at_b (subst (λ (f : List (Frame Todo)). holds f pool ≡ true) (sym is) (holds-others frame frames pool others)) held_b
]

taken-fits : (x : Activity Todo) (frame : Frame Todo) (frames : List (Frame Todo)) → x.frames ≡ frame ∷ frames → FramesFit x.state x.frames x.wait
    → FramesFit x.state (taken frame ∷ frames) x.wait
taken-fits x frame frames is fits = fits-by x.state (subst (λ (f : List (Frame Todo)). FramesFit x.state f x.wait) is fits)
  where
    fits-by : (state : State) → FramesFit state (frame ∷ frames) x.wait → FramesFit state (taken frame ∷ frames) x.wait
    fits-by NotLive fits = cc
    fits-by Live fits = fits
    fits-by Over fits = let e : frame ∷ frames ≡ [] = fits.0 in cc

-- what an activity holds after it took its pool, it held before, or nobody else does
taken-sound : (v : World) (a : ℕ) (x : Activity Todo) (frame : Frame Todo) (frames : List (Frame Todo)) → Sound v → activity_at v.activities a ≡ Some x
    → x.frames ≡ frame ∷ frames → frame.asks ≡ true → holder_before v a x ≡ None → Sound (takes v a frame)
taken-sound v a x frame frames sound at is on none =
    let change : Activity Todo → Activity Todo = λ z. record z { frames = slice_set z.frames 0 (taken frame) } in
    let only : OnlyTopAsks (frame ∷ frames) = subst OnlyTopAsks is (sound.only_top_asks a x at) in
    let rightly : AsksRightly frame = only.0 on in
    let same : (z : Activity Todo) → activity_at v.activities a ≡ Some z → x ≡ z = λ z there. let e : Some x ≡ Some z = sym at ∙ there in cc in
    let after_frames : (z : Activity Todo) → activity_at v.activities a ≡ Some z → (change z).frames ≡ taken frame ∷ frames =
    λ z there. ap (λ (f : List (Frame Todo)). slice_set f 0 (taken frame)) (ap (λ (u : Activity Todo). u.frames) (sym (same z there)) ∙ is) in
    record {
      one_holder = λ b c y z pool at_b at_c held_b held_c. elim (change-cases v.activities a b change y at_b) [
        | inl left ↦ elim (change-cases v.activities a c change z at_c) [
          | inl right ↦ sound.one_holder b c y z pool left right held_b held_c
          | inr right ↦
              let held : holds (taken frame ∷ frames) pool ≡ true = subst (λ (f : List (Frame Todo)). holds f pool ≡ true) (ap (λ (u : Activity Todo). u.frames) right.3 ∙ after_frames right.1 right.2) held_c in
              sym (taken-alone v a x frame frames pool b y sound at is on rightly none held left held_b) ∙ sym right.0
        ]
        | inr left ↦
            let held : holds (taken frame ∷ frames) pool ≡ true = subst (λ (f : List (Frame Todo)). holds f pool ≡ true) (ap (λ (u : Activity Todo). u.frames) left.3 ∙ after_frames left.1 left.2) held_b in
            elim (change-cases v.activities a c change z at_c) [
              | inl right ↦ left.0 ∙ taken-alone v a x frame frames pool c z sound at is on rightly none held right held_c
              | inr right ↦ left.0 ∙ sym right.0
            ]
      ];
      only_top_asks = λ b y at_b. elim (change-cases v.activities a b change y at_b) [
        | inl same ↦ sound.only_top_asks b y same
        | inr here ↦ subst OnlyTopAsks (sym (ap (λ (u : Activity Todo). u.frames) here.3 ∙ after_frames here.1 here.2)) (λ asks. absurd (false≢true asks), only.1)
      ];
      live_has_frames = λ b y at_b. elim (change-cases v.activities a b change y at_b) [
        | inl same ↦ sound.live_has_frames b y same
        | inr here ↦
            subst (λ (u : Activity Todo). FramesFit u.state u.frames u.wait) (sym (here.3 ∙ ap change (sym (same here.1 here.2))))
            (subst (λ (f : List (Frame Todo)). FramesFit x.state f x.wait) (sym (after_frames x at)) (taken-fits x frame frames is (sound.live_has_frames a x at)))
      ];
    }

-- ---- steps and runs

after-sound : (v : World) (stepped : Stepped) → Sound v → StepKeeps v.activities stepped → Sound (world_after v stepped)
after-sound v (w.Done next) sound keeps = sound-kept v next keeps sound
after-sound v WantsLine sound keeps = sound

none-before : (holder : Option ℕ) → is_none holder ≡ true → holder ≡ None
none-before None is = refl
none-before (Some other) is = cc

frame-sound : (v : World) (a : ℕ) (x : Activity Todo) (frame : Frame Todo) (frames : List (Frame Todo)) (asks : Bool) → Sound v → activity_at v.activities a ≡ Some x
    → x.frames ≡ frame ∷ frames → holder_before v a x ≡ None → frame.asks ≡ asks
    → Sound (world_after v (if asks then w.Done (takes (counted v) a frame) else step_items (counted v) a frame (past_labels frame.todo.items)))
frame-sound v a x frame frames true sound at is none on =
    sound-kept (takes v a frame) (takes (counted v) a frame) (keeps-same _) (taken-sound v a x frame frames sound at is on none)
frame-sound v a x frame frames false sound at is none off =
    let only : OnlyTopAsks (frame ∷ frames) = subst OnlyTopAsks is (sound.only_top_asks a x at) in
    after-sound v (step_items (counted v) a frame (past_labels frame.todo.items)) sound
    (items-keep (counted v) a frame frames (past_labels frame.todo.items)
    (λ z there. let e : Some x ≡ Some z = sym at ∙ there in let same : x ≡ z = cc in ap (λ (u : Activity Todo). u.frames) (sym same) ∙ is) (off, only.1))

frames-sound : (v : World) (a : ℕ) (x : Activity Todo) (frames : List (Frame Todo)) → Sound v → activity_at v.activities a ≡ Some x
    → x.frames ≡ frames → holder_before v a x ≡ None → Sound (world_after v (step_frames (counted v) a frames))
frames-sound v a x [] sound at is none =
    after-sound v (w.Done (sends_first (counted v) a)) sound
    (first-of-keeps (counted v) a (first_message (activity_at v.activities a))
    (λ z there. let e : Some x ≡ Some z = sym at ∙ there in let same : x ≡ z = cc in subst NoneAsks (sym (ap (λ (u : Activity Todo). u.frames) (sym same) ∙ is)) tt))
frames-sound v a x (frame ∷ frames) sound at is none = frame-sound v a x frame frames frame.asks sound at is none refl

enabled-sound : (v : World) (a : ℕ) (found : Option (Activity Todo)) → activity_at v.activities a ≡ found → IsTrue (may_step_at v a found) → Sound v → Sound (after v a)
enabled-sound v a None at may sound = cc
enabled-sound v a (Some x) at may sound =
    subst (λ (frames : List (Frame Todo)). Sound (world_after v (step_frames (counted v) a frames))) (sym (frames-there v.activities a x at))
    (frames-sound v a x x.frames sound at refl (none-before (holder_before v a x) (second_so (is_live x.state) _ may)))

run-sound : (v : World) (picks : List ℕ) → IsTrue (legal v picks) → Sound v → Sound (run v picks)
run-sound v [] is_legal sound = sound
run-sound v (a ∷ picks) is_legal sound =
    let may : IsTrue (may_pick v a) = first_so (may_pick v a) _ is_legal in
    run-sound (after v a) picks (second_so (may_pick v a) _ is_legal)
    (enabled-sound v a (activity_at v.activities a) refl (picks-are-enabled v a may).0 sound)

-- ---- the first world

first-at : (x y : Activity Todo) (a : ℕ) → activity_at (x ∷ []) a ≡ Some y → x ≡ y
first-at x y zero at = cc
first-at x y (suc zero) at = cc
first-at x y (suc (suc place)) at = cc

main-holds : (program : Package) (arg : Option (List ℕ)) (pool : ℕ) → holds (main_frame program arg ∷ []) pool ≡ true → ⊥
main-holds program arg pool held = elim (holds-cases (main_frame program arg) [] pool held) [
  | inl first ↦ false≢true first
  | inr others ↦ false≢true others
]

opening-sound : (program : Package) (arg : Option (List ℕ)) (lines : List (List ℕ)) (last : Bool) (budget : ℕ) → Sound (opening program arg lines last budget)
opening-sound program arg lines last budget =
    let first : Activity Todo = waiting given_wait.Nothing (main_frame program arg ∷ []) in
    record {
      one_holder = λ a b x y pool at_a at_b held_a held_b.
          absurd (main-holds program arg pool (subst (λ (u : Activity Todo). holds u.frames pool ≡ true) (sym (first-at first x a at_a)) held_a));
      only_top_asks = λ a x at. subst (λ (u : Activity Todo). OnlyTopAsks u.frames) (first-at first x a at) (λ asks. absurd (false≢true asks), tt);
      live_has_frames = λ a x at. subst (λ (u : Activity Todo). FramesFit u.state u.frames u.wait) (first-at first x a at) refl;
    }

pub worlds-are-sound : (program : Package) (arg : Option (List ℕ)) (lines : List (List ℕ)) (last : Bool) (budget : ℕ) (picks : List ℕ)
    → IsTrue (legal (opening program arg lines last budget) picks) → Sound (run (opening program arg lines last budget) picks)
worlds-are-sound program arg lines last budget picks is_legal =
    run-sound (opening program arg lines last budget) picks is_legal (opening-sound program arg lines last budget)
