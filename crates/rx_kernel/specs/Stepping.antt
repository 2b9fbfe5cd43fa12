-- Where a step stands that does something of a clause, and what it comes to.
use Rattle.std.specs.Prelude.{◌≡◌, ℕ, ◌∷◌, [], List, map, codes, slice_get, Option, None, Some}
use Rattle.rx_tree.specs.declared.name.Name.{Name}
use Rattle.rx_tree.specs.declared.name.Name.TheVariants.{Simple}
use Rattle.rx_tree.specs.declared.value.Value.{Value}
use Rattle.rx_clause_tree.specs.declared.clause.Clause.{Clause}
use Rattle.rx_clause_tree.specs.declared.package.Package.{Package}
use Rattle.rx_clause_tree.specs.declared.simple.Simple.TheVariants as simple
use Rattle.rx_clause_tree.specs.declared.simple.Simple as clauses
use Rattle.rx_frames.specs.declared.parts.Own.{Own}
use Rattle.rx_frames.specs.declared.position.CallState.{CallState}
use Rattle.rx_frames.specs.declared.position.CallState.TheVariants.{NoCall, Awaiting, Answered}
use Rattle.rx_frames.specs.declared.position.Position.{Position}
use Rattle.rx_frames.specs.Frames.{Frame}
use Rattle.rx_flow.specs.Kept.{all_kept}
use Rattle.rx_flow.specs.Rules.{Does, rule}
use Rattle.rx_flow.specs.Todo.{Item, Whole, past_labels}
use Rattle.rx_eval.specs.Bodies.{Body}
use Rattle.rx_eval.specs.Pauses.{trees_of}
use Rattle.rx_eval.specs.Places.{Trees}
use Rattle.rx_machine.specs.Answers.{Resumed, Left, Without, Raises, resumed}
use Rattle.rx_machine.specs.Arguments.{rows}
use Rattle.rx_machine.specs.Assigning.{assign_from, expose_from}
use Rattle.rx_machine.specs.Clauses as world
use Rattle.rx_machine.specs.Step.{resumes}
use Rattle.rx_machine.specs.Todo.{Todo, clauses_in}
use Rattle.rx_machine.specs.Turns.{Turn, line}
use Rattle.rx_machine.specs.Values.{first_value}
use Rattle.rx_machine.specs.Variables.{dropped}
use Rattle.rx_machine.specs.World as machine
use Rattle.rx_machine.specs.World.{World}
use Rattle.rx_kernel.specs.declared.onward.Onward.{Onward}
use Rattle.rx_kernel.specs.declared.onward.Onward.TheVariants as onward
use Rattle.rx_kernel.specs.declared.state.State.{State}
use Rattle.rx_kernel.specs.declared.stepped.Here.{Here}
use Rattle.rx_kernel.specs.declared.stepped.Next.{Next}
use Rattle.rx_kernel.specs.declared.stepped.Stepped.{Stepped}
use Rattle.rx_kernel.specs.declared.stepped.Stepped.TheVariants as stepped
use Rattle.rx_kernel.specs.Readings.{reading}
use Rattle.rx_kernel.specs.States.{world_of}
use Rattle.rx_kernel.specs.Steps.{after_assigning, pushed, queued, said}
use Rattle.rx_kernel.specs.Turning.{IsTop, items_from}
use Rattle.rx_kernel.specs.Views.{frame_view}

-- The state stands for the world of a turn: the frame on top is at its clause, whose place and the place behind it are told.
pub record IsTurn (state : State) (a : ℕ) (here : Here) (t : Turn) : Type 0 where
  pub world : t.world ≡ world_of state
  pub number : t.number ≡ a
  pub its_line : line t ≡ here.line
  pub top : Frame Position
  pub is_top : IsTop state.parts.stacks a top
  pub frame : t.frame ≡ frame_view (reading state.program) top
  pub items : items_from state.program top here.at ≡ t.item ∷ t.rest
  pub rest : items_from state.program top here.next ≡ t.rest

-- A step has come to this, with the world afterwards. One that wants a line leaves the world.
abbrev pub IsStepped : World → machine.Stepped → Stepped → World → Type 0
IsStepped before (machine.Done w) stepped.Done after = after ≡ w
IsStepped before machine.WantsLine stepped.WantsLine after = after ≡ before
IsStepped before _ _ after = ⊥

-- names are exposed in the pool of a frame's object and scope, if it has one
abbrev pub exposes_in : World → ℕ → ℕ → Option Own → List Name → World
exposes_in w a line None names = w
exposes_in w a line (Some own) names = after_assigning a line (expose_from w a own.pool names)

-- What a clause does once its frame has gone on, by the frame's own object and pool and its arguments: RETURN and PARSE apart.
abbrev pub does_behind : World → ℕ → ℕ → Option Own → List (Option Value) → clauses.Simple → List Value → World
does_behind w a line own args (simple.Say given) values = said w values
does_behind w a line own args (simple.Push given) values = pushed w values
does_behind w a line own args (simple.Queue given) values = queued w values
does_behind w a line own args (simple.Assign name expr) values = after_assigning a line (assign_from w a ((name, first_value values) ∷ []))
does_behind w a line own args (simple.Message expr) values =
    after_assigning a line (assign_from w a ((Simple (codes "RESULT"), first_value values) ∷ []))
does_behind w a line own args (simple.Drop names) values = after_assigning a line (assign_from w a (map dropped names))
does_behind w a line own args (simple.Expose names) values = exposes_in w a line own names
does_behind w a line own args (simple.UseArg strict parameters) values =
    after_assigning a line (assign_from w a (rows parameters args values))
does_behind w a line own args _ values = w

-- ---- how a clause goes on

-- as the machine has it
abbrev pub resumed_of : Onward → Resumed
resumed_of (onward.With ready) = Left (trees_of ready)
resumed_of onward.Without = Without
resumed_of (onward.Raises number) = Raises number

-- a clause is begun with these expressions, unless an error is raised first
abbrev pub begun_with : Trees → Option ℕ → Resumed
begun_with trees None = Left trees
begun_with trees (Some number) = Raises number

-- What a clause of a frame goes on with: its expressions from the beginning, or what is left behind its call, where the answer has come.
abbrev pub onward_of : Frame Todo → clauses.Simple → CallState → Option Resumed
onward_of frame simple NoCall = Some (begun_with (world.trees_of frame.arguments simple) (world.refused frame simple))
onward_of frame simple (Awaiting how) = None
onward_of frame simple (Answered how answer) = Some (resumed how answer frame.todo.trees)

abbrev pub goes_with : Turn → clauses.Simple → Option Resumed → machine.Stepped
goes_with t simple None = machine.Done t.world
goes_with t simple (Some one) = resumes t simple one

-- the code with which it goes on is that of this body
abbrev pub IsOf : Body → Option Onward → Type 0
IsOf body (Some (onward.With ready)) = ready.code.body ≡ body
IsOf body _ = Unit {0}

-- ---- the clause that is next

-- The clause of a body that is kept under this number does this.
pub record IsKept (program : Package) (body number : ℕ) (simple : clauses.Simple) : Type 0 where
  pub clause : Clause
  pub kept : slice_get (all_kept (clauses_in program body)) number ≡ Some clause
  pub does : rule clause ≡ Does simple

-- A frame has a clause to do next, past labels, that does this.
pub record IsNext (program : Package) (frame : Frame Position) (next : Next) (simple : clauses.Simple) : Type 0 where
  pub clause : Clause
  pub rest : List Item
  pub first : past_labels (items_from program frame frame.todo.place) ≡ Whole clause ∷ rest
  pub its_line : clause.line ≡ next.here.line
  pub does : rule clause ≡ Does simple
  pub at : items_from program frame next.here.at ≡ Whole clause ∷ rest
  pub behind : items_from program frame next.here.next ≡ rest
  pub kept : IsKept program frame.body next.number simple

-- It has nothing left to do.
abbrev pub IsDone : Package → Frame Position → Type 0
IsDone program frame = past_labels (items_from program frame frame.todo.place) ≡ []
