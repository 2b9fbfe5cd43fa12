-- Frames: what an activity is in the middle of.
use Rattle.std.specs.Prelude.{◌≡◌, ℕ, Bool, true, false, List, [], Option, None, Some, if◌then◌else◌}
use Rattle.rx_tree.specs.declared.value.Value.{Value}
use Rattle.rx_tree.specs.declared.activity.FrameKind.{FrameKind}
use Rattle.rx_tree.specs.declared.activity.FrameKind.TheVariants.{Main, Method, Routine, Internal}
use Rattle.rx_tree.specs.declared.activity.TraceSetting.{TraceSetting}
use Rattle.rx_tree.specs.declared.activity.TraceSetting.TheVariants.{Off}
use Rattle.rx_tree.specs.declared.activity.Caught.{Caught}
use Rattle.rx_tree.specs.declared.name.Derived.{Derived}
use Rattle.rx_vars.specs.Names.{changed, no_names}
use Rattle.rx_vars.specs.Variables.{Variables, no_variables}
use Rattle.rx_frames.specs.declared.parts.Own.{Own}
use Rattle.rx_frames.specs.declared.parts.Trap.{Trap}
use Rattle.rx_frames.specs.declared.parts.Due.{Due}
use Rattle.rx_frames.specs.declared.position.CallState.{CallState}
use Rattle.rx_frames.specs.declared.position.CallState.TheVariants.{NoCall, Awaiting, Answered}
use Rattle.rx_frames.specs.declared.position.Marks.TheVariants.{NoGuard}
use Rattle.rx_frames.specs.declared.position.Position.{Position}

-- A frame, by the way in which it tells what is still to be done: as a position in the code of its body, or as a list.
pub record Frame (Todo : Type 0) : Type 0 where
  -- the number of its body; the main body has the number after the last one of the package
  pub body : ℕ
  pub kind : FrameKind
  pub todo : Todo
  -- its variables, and the names that it exposes
  pub variables : Variables
  -- its object and scope, and the number of their pool: a method's frame has them
  pub own : Option Own
  pub arguments : List (Option Value)
  -- NUMERIC DIGITS, 1 to 18
  pub digits : ℕ
  pub trace : TraceSetting
  pub traps : List Trap
  -- the condition that it trapped last
  pub caught : Option Caught
  -- whether it reserves its pool, and whether it asks for it
  pub reserves : Bool
  pub asks : Bool
  pub replied : Bool
  -- the Message that it completes, by its object number
  pub completes : Option ℕ
  -- the trap calls that it has still to make, the oldest first
  pub due : List Due
  -- whether NEW began it as INIT: then it gives its object in place of a value
  pub made : Bool
  -- whether a call of a label pushed it, and no clause of it was begun
  pub fresh : Bool

-- the beginning of a body: nothing is evaluated, and no loop is begun
abbrev pub beginning : Position
beginning = record {
  place = 0;
  operands = record { rest = None; call = NoCall };
  loops = [];
  marks = NoGuard;
}

-- an internal routine shares the variables of its caller
abbrev pub is_alone : FrameKind → Bool
is_alone Main = true
is_alone Method = true
is_alone Routine = true
is_alone Internal = false

-- A frame of a body, of which this is to be done.
abbrev pub frame_with : {Todo : Type 0} → Todo → FrameKind → ℕ → Option Own → List (Option Value) → Frame Todo
frame_with todo kind body own arguments = record {
  body = body;
  kind = kind;
  todo = todo;
  variables = no_variables (is_alone kind);
  own = own;
  arguments = arguments;
  digits = 9;
  trace = Off;
  traps = [];
  caught = None;
  reserves = false;
  asks = false;
  replied = false;
  completes = None;
  due = [];
  made = false;
  fresh = false;
}

-- all names are the caller's: the frame has no variables of its own, and exposes no name
abbrev pub IsShared : Variables → Type 0
IsShared variables = (variables.alone ≡ false) × (variables.exposed ≡ no_names)

-- the frame once a name has this value in its own variables, or none
abbrev pub with_value : {Todo : Type 0} → Derived → Option Value → Frame Todo → Frame Todo
with_value name value frame =
    record frame { variables = record frame.variables { rows = changed frame.variables.rows name value } }

-- the object, scope and pool of a frame that asks for its pool
abbrev pub asked_by : {Todo : Type 0} → Frame Todo → Option Own
asked_by frame = if frame.asks then frame.own else None

-- the frame whose to-do is changed so
abbrev pub with_todo : {Todo : Type 0} → (Todo → Todo) → Frame Todo → Frame Todo
with_todo change frame = record frame { todo = change frame.todo }

-- ---- answers

-- the answer of a call, a value or none, has come where it was awaited
abbrev pub call_with : Option Value → CallState → CallState
call_with answer NoCall = NoCall
call_with answer (Awaiting awaited) = Answered awaited answer
call_with answer (Answered awaited other) = Answered awaited other

abbrev pub answered : Option Value → Position → Position
answered answer position =
    record position { operands = record position.operands { call = call_with answer position.operands.call } }

-- the frame once this answer has come of the call that it awaits
abbrev pub with_answer : Option Value → Frame Position → Frame Position
with_answer answer = with_todo (answered answer)

-- ---- ways of telling what is still to be done

-- The beginning of a body, by its number, and what is to be done once an answer has come.
pub record Doing (Todo : Type 0) : Type 0 where
  pub beginning : ℕ → Todo
  pub answered : Option Value → Todo → Todo

-- positions in code
abbrev pub positions : Doing Position
positions = record { beginning = λ (body : ℕ). beginning; answered = answered }
