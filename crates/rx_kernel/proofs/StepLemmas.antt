-- The step of an activity.
use Rattle.std.proofs.Common.{◌≡◌, ℕ, suc, true, false, List, [], ◌∷◌, Option, None, Some, refl, sym, ◌∙◌, ap, subst, if◌then◌else◌}
use Rattle.std.specs.Prelude.{length, map, slice_get}
use Rattle.rx_tree.specs.declared.expr.Expr.{Expr}
use Rattle.rx_tree.specs.declared.value.Value.{Value}
use Rattle.rx_clause_tree.specs.declared.package.Package.{Package}
use Rattle.rx_clause_tree.specs.declared.simple.Simple.{Simple}
use Rattle.rx_clause_tree.specs.declared.template.Parse.{Parse}
use Rattle.rx_clause_tree.specs.declared.simple.Simple.TheVariants as s
use Rattle.rx_frames.specs.declared.position.CallState.{CallState}
use Rattle.rx_frames.specs.declared.position.CallState.TheVariants.{NoCall, Awaiting, Answered}
use Rattle.rx_frames.specs.declared.position.Position.{Position}
use Rattle.rx_frames.specs.Frames.{Frame}
use Rattle.rx_frames.specs.Activities.{Activity, frames_at}
use Rattle.rx_flow.specs.Rules.{Does}
use Rattle.rx_flow.specs.Todo.{Item, Whole, past_labels}
use Rattle.rx_eval.specs.Bodies.{Body}
use Rattle.rx_machine.specs.Clauses.{finish, refused, trees_of}
use Rattle.rx_machine.specs.Ending.{ended}
use Rattle.rx_machine.specs.Raising.{raised}
use Rattle.rx_eval.specs.Places.{Trees}
use Rattle.rx_machine.specs.Scenes.{body_of, comes_to}
use Rattle.rx_machine.specs.Sending.{sends_first}
use Rattle.rx_machine.specs.Step.{goes, goes_by, resumes, starts, step, step_frame, step_frames, step_items, takes, turn}
use Rattle.rx_machine.specs.Todo.{Todo}
use Rattle.rx_machine.specs.Templates.{parses}
use Rattle.rx_machine.specs.Turns.{Turn, goes_on, line}
use Rattle.rx_machine.specs.Values.{first_value}
use Rattle.rx_machine.specs.World as machine
use Rattle.rx_machine.specs.World.{World}
use Rattle.rx_kernel.specs.declared.state.State.{State}
use Rattle.rx_kernel.specs.declared.stepped.Here.{Here}
use Rattle.rx_kernel.specs.declared.stepped.Next.{Next}
use Rattle.rx_kernel.specs.declared.stepped.Stepped.{Stepped}
use Rattle.rx_kernel.specs.declared.stepped.Stepped.TheVariants as stepped
use Rattle.rx_kernel.specs.Readings.{CodesFit, fixed_for, reading}
use Rattle.rx_kernel.specs.States.{world_of}
use Rattle.rx_kernel.specs.Stepping.{IsDone, IsNext, IsStepped, IsTurn, begun_with, does_behind, goes_with, onward_of}
use Rattle.rx_kernel.specs.Turning.{IsTop, items_from}
use Rattle.rx_kernel.specs.Views.{frame_view}
use Rattle.rx_kernel.proofs.TurnLemmas.{same-frame, top-fits}
use Rattle.rx_kernel.proofs.ViewLemmas.{view-frames}

-- ---- what a step comes to

pub stepped-is : (before : World) (one other : machine.Stepped) (so : Stepped) (after : World) → one ≡ other → IsStepped before one so after → IsStepped before other so after
stepped-is before one other so after same is = subst (λ it. IsStepped before it so after) same is

-- an error is raised by the clause of a turn
pub raises-in : (state : State) (a : ℕ) (here : Here) (t : Turn) (at : IsTurn state a here t) (number : ℕ) (w : World)
    → w ≡ raised (world_of state) a number here.line → w ≡ raised t.world t.number number (line t)
raises-in state a here t at number w is =
    is
    ∙ ap (λ (n : ℕ). raised (world_of state) a number n) (sym at.its_line)
    ∙ ap (λ (n : ℕ). raised (world_of state) n number (line t)) (sym at.number)
    ∙ ap (λ (before : World). raised before t.number number (line t)) (sym at.world)

-- what expressions come to for the frame of a turn
pub comes-in : (state : State) (a : ℕ) (here : Here) (t : Turn) (at : IsTurn state a here t) (trees : Trees)
    → comes_to t.world t.number t.frame trees ≡ comes_to (world_of state) a (frame_view (reading state.program) at.top) trees
comes-in state a here t at trees =
    ap (λ (before : World). comes_to before t.number t.frame trees) at.world
    ∙ ap (λ (n : ℕ). comes_to (world_of state) n t.frame trees) at.number
    ∙ ap (λ (frame : Frame Todo). comes_to (world_of state) a frame trees) at.frame

-- the frame of a turn ends
pub ends-in : (state : State) (a : ℕ) (here : Here) (t : Turn) (at : IsTurn state a here t) (value : Option Value) (w : World)
    → w ≡ ended (world_of state) a (frame_view (reading state.program) at.top) value → w ≡ ended t.world t.number t.frame value
ends-in state a here t at value w is =
    is
    ∙ ap (λ (frame : Frame Todo). ended (world_of state) a frame value) (sym at.frame)
    ∙ ap (λ (n : ℕ). ended (world_of state) n t.frame value) (sym at.number)
    ∙ ap (λ (before : World). ended before t.number t.frame value) (sym at.world)

pub returns-is : (t : Turn) (one : Simple) (values : List Value) (given : Option Expr) → one ≡ s.Return given
    → finish t one values ≡ machine.Done (ended t.world t.number t.frame (first_value values))
unfolding finish
returns-is t one values given is = ap (λ (it : Simple). finish t it values) is

pub parses-is : (t : Turn) (one : Simple) (values : List Value) (parse : Parse) → one ≡ s.Parse parse → finish t one values ≡ parses t parse values
unfolding finish
parses-is t one values parse is = ap (λ (it : Simple). finish t it values) is

-- what a clause does behind its turn
pub behind-in : (state : State) (a : ℕ) (here : Here) (t : Turn) (at : IsTurn state a here t) (one : Simple) (values : List Value)
    → does_behind (goes_on t) a here.line t.frame.own t.frame.arguments one values ≡ does_behind (goes_on t) t.number (line t) t.frame.own t.frame.arguments one values
behind-in state a here t at one values =
    ap (λ (n : ℕ). does_behind (goes_on t) n here.line t.frame.own t.frame.arguments one values) (sym at.number)
    ∙ ap (λ (n : ℕ). does_behind (goes_on t) t.number n t.frame.own t.frame.arguments one values) (sym at.its_line)

-- ---- clauses

starts-is : (t : Turn) (one : Simple) (error : Option ℕ) → starts t one error ≡ resumes t one (begun_with (trees_of t.frame.arguments one) error)
starts-is t one None = refl
starts-is t one (Some number) = refl

-- what a clause goes on with is what the step goes by
goes-is : (t : Turn) (one : Simple) (call : CallState) → goes_by t call one ≡ goes_with t one (onward_of t.frame one call)
goes-is t one NoCall = starts-is t one (refused t.frame one)
goes-is t one (Awaiting how) = refl
goes-is t one (Answered how answer) = refl

-- the frame on top is that of the turn
pub at-top : (state : State) (a : ℕ) (here : Here) (t : Turn) (at : IsTurn state a here t) (frame : Frame Position) → IsTop state.parts.stacks a frame
    → t.frame ≡ frame_view (reading state.program) frame
at-top state a here t at frame top =
    at.frame ∙ ap (frame_view (reading state.program)) (same-frame at.top frame (slice_get (frames_at state.parts.stacks a) 0) (sym at.is_top) top)

pub goes-so : (state : State) (a : ℕ) (here : Here) (t : Turn) (at : IsTurn state a here t) (frame : Frame Position) (one : Simple) → IsTop state.parts.stacks a frame
    → goes_with t one (onward_of (frame_view (reading state.program) frame) one frame.todo.operands.call) ≡ goes t (Does one)
goes-so state a here t at frame one top =
    let same : frame_view (reading state.program) frame ≡ t.frame = sym (at-top state a here t at frame top) in
    ap (λ (f : Frame Todo). goes_with t one (onward_of f one f.todo.call)) same
    ∙ sym (goes-is t one t.frame.todo.call)

-- the code with which a frame goes on is that of its body
pub code-fits : (program : Package) (old : List (Activity Position)) (a : ℕ) (frame : Frame Position) → IsTop old a frame → CodesFit program old
    → fixed_for (body_of program frame.body) frame.todo.operands.rest ≡ body_of program frame.body
code-fits program old a frame top fits = ap (λ (f : Frame Body). f.todo) (top-fits program old a frame top fits)

-- ---- the clause that is next

abbrev pub turn-of : (state : State) (a : ℕ) (frame : Frame Position) (next : Next) (one : Simple) (is : IsNext state.program frame next one) → Turn
turn-of state a frame next one is = turn (world_of state) a (frame_view (reading state.program) frame) (Whole is.clause) is.rest

pub is-turn : (state : State) (a : ℕ) (frame : Frame Position) (next : Next) (one : Simple) (is : IsNext state.program frame next one) → IsTop state.parts.stacks a frame
    → IsTurn state a next.here (turn-of state a frame next one is)
is-turn state a frame next one is top = record {
  world = refl;
  number = refl;
  its_line = is.its_line;
  top = frame;
  is_top = top;
  frame = refl;
  items = is.at;
  rest = is.behind;
}

-- the step of that turn is the step of the frame
pub next-steps : (state : State) (a : ℕ) (frame : Frame Position) (next : Next) (one : Simple) (is : IsNext state.program frame next one)
    → goes (turn-of state a frame next one is) (Does one)
    ≡ step_items (world_of state) a (frame_view (reading state.program) frame) (past_labels (items_from state.program frame frame.todo.place))
next-steps state a frame next one is =
    ap (λ r. goes (turn-of state a frame next one is) r) (sym is.does)
    ∙ ap (λ (items : List Item). step_items (world_of state) a (frame_view (reading state.program) frame) items) (sym is.first)

pub done-steps : (state : State) (a : ℕ) (frame : Frame Position) → IsDone state.program frame
    → machine.Done (ended (world_of state) a (frame_view (reading state.program) frame) None)
    ≡ step_items (world_of state) a (frame_view (reading state.program) frame) (past_labels (items_from state.program frame frame.todo.place))
done-steps state a frame is = ap (λ (items : List Item). step_items (world_of state) a (frame_view (reading state.program) frame) items) (sym is)

-- ---- kinds of step

no-frame : {T : Type 0} (frames : List (Frame T)) → length frames ≡ 0 → frames ≡ []
no-frame [] is = refl
no-frame (frame ∷ frames) is = let wrong : suc (length frames) ≡ 0 = is in cc

top-of-frames : (frames : List (Frame Position)) → (length frames ≡ 0 → ⊥) → (frame : Frame Position) × (slice_get frames 0 ≡ Some frame)
top-of-frames [] some = absurd (some refl)
top-of-frames (frame ∷ frames) some = (frame, refl)

first-frame : {T : Type 0} (frames : List (Frame T)) (frame : Frame T) → slice_get frames 0 ≡ Some frame → (others : List (Frame T)) × (frames ≡ frame ∷ others)
first-frame [] frame is = let wrong : None ≡ Some frame = is in cc
first-frame (one ∷ others) frame is = let same : one ≡ frame = cc (is) in (others, ap (λ (f : Frame _). f ∷ others) same)

-- the frames of the world's activity
frames-are : (state : State) (a : ℕ) → frames_at (world_of state).activities a ≡ map (frame_view (reading state.program)) (frames_at state.parts.stacks a)
frames-are state a = view-frames (reading state.program) state.parts.stacks a

-- an activity that has frames has one on top
pub top-of : (old : List (Activity Position)) (a : ℕ) → (length (frames_at old a) ≡ 0 → ⊥) → (frame : Frame Position) × IsTop old a frame
top-of old a some = top-of-frames (frames_at old a) some

pub step-first : (state : State) (a : ℕ) → length (frames_at state.parts.stacks a) ≡ 0
    → machine.Done (sends_first (world_of state) a) ≡ step_frames (world_of state) a (frames_at (world_of state).activities a)
step-first state a none =
    ap (λ (frames : List (Frame Position)). step_frames (world_of state) a (map (frame_view (reading state.program)) frames)) (sym (no-frame (frames_at state.parts.stacks a) none))
    ∙ ap (step_frames (world_of state) a) (sym (frames-are state a))

pub step-top : (state : State) (a : ℕ) (frame : Frame Position) → IsTop state.parts.stacks a frame
    → step_frame (world_of state) a (frame_view (reading state.program) frame) ≡ step_frames (world_of state) a (frames_at (world_of state).activities a)
step-top state a frame top =
    let found = first-frame (frames_at state.parts.stacks a) frame top in
    ap (λ (frames : List (Frame Position)). step_frames (world_of state) a (map (frame_view (reading state.program)) frames)) (sym found.1)
    ∙ ap (step_frames (world_of state) a) (sym (frames-are state a))

-- it takes its pool
pub step-takes : (state : State) (a : ℕ) (frame : Frame Position) → frame.asks ≡ true
    → machine.Done (takes (world_of state) a (frame_view (reading state.program) frame)) ≡ step_frame (world_of state) a (frame_view (reading state.program) frame)
step-takes state a frame asks =
    let w : World = world_of state in
    let f : Frame Todo = frame_view (reading state.program) frame in
    ap (λ b. if b then machine.Done (takes w a f) else step_items w a f (past_labels f.todo.items)) (sym asks)

-- it asks for none
pub step-goes : (state : State) (a : ℕ) (frame : Frame Position) → frame.asks ≡ false
    → step_items (world_of state) a (frame_view (reading state.program) frame) (past_labels (items_from state.program frame frame.todo.place))
    ≡ step_frame (world_of state) a (frame_view (reading state.program) frame)
step-goes state a frame asks =
    let w : World = world_of state in
    let f : Frame Todo = frame_view (reading state.program) frame in
    ap (λ b. if b then machine.Done (takes w a f) else step_items w a f (past_labels f.todo.items)) (sym asks)
