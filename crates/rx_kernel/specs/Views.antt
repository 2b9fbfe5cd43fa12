-- The machine's frames for those of the code: what is still to be done is told by clauses in place of positions.
use Rattle.std.specs.Prelude.{◌≡◌, ℕ, List, map, Option}
use Rattle.rx_tree.specs.declared.value.Value.{Value}
use Rattle.rx_frames.specs.declared.position.Position.{Position}
use Rattle.rx_frames.specs.Frames.{Doing, Frame, beginning, answered}
use Rattle.rx_frames.specs.Activities.{Activity}
use Rattle.rx_sends.specs.Parts.{Parts}

-- what a position in the code of a body, by its number, stands for
abbrev pub Reading : Type 0 → Type 0
Reading Todo = ℕ → Position → Todo

-- the frame that tells so what it has still to do
abbrev pub frame_view : {Todo : Type 0} → Reading Todo → Frame Position → Frame Todo
frame_view read frame = record {
  body = frame.body;
  kind = frame.kind;
  todo = read frame.body frame.todo;
  variables = frame.variables;
  own = frame.own;
  arguments = frame.arguments;
  digits = frame.digits;
  trace = frame.trace;
  traps = frame.traps;
  caught = frame.caught;
  reserves = frame.reserves;
  asks = frame.asks;
  replied = frame.replied;
  completes = frame.completes;
  due = frame.due;
  made = frame.made;
  fresh = frame.fresh;
}

abbrev pub frames_view : {Todo : Type 0} → Reading Todo → List (Frame Position) → List (Frame Todo)
frames_view read frames = map (frame_view read) frames

abbrev pub activity_view : {Todo : Type 0} → Reading Todo → Activity Position → Activity Todo
activity_view read activity = record { state = activity.state; frames = frames_view read activity.frames; wait = activity.wait }

abbrev pub activities_view : {Todo : Type 0} → Reading Todo → List (Activity Position) → List (Activity Todo)
activities_view read activities = map (activity_view read) activities

abbrev pub parts_view : {Todo : Type 0} → Reading Todo → Parts Position → Parts Todo
parts_view read parts = record {
  activities = activities_view read parts.activities;
  objects = parts.objects;
  classes = parts.classes;
  pools = parts.pools;
}

-- The beginning of a body stands for the beginning of it, and an answer has come where it has come.
pub record IsReading {Todo : Type 0} (doing : Doing Todo) (read : Reading Todo) : Type 0 where
  pub begins : (body : ℕ) → read body beginning ≡ doing.beginning body
  pub answers : (body : ℕ) (value : Option Value) (position : Position)
      → read body (answered value position) ≡ doing.answered value (read body position)
