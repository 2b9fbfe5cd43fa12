-- What a step does to the frame on top, in the code of its body.
use Rattle.std.specs.Prelude.{◌≡◌, ℕ, true, false, List, reverse, slice_get, None, Some}
use Rattle.rx_tree.specs.declared.activity.Awaited.{Awaited}
use Rattle.rx_clause_tree.specs.declared.package.Package.{Package}
use Rattle.rx_frames.specs.declared.position.CallState.TheVariants.{NoCall, Awaiting}
use Rattle.rx_frames.specs.declared.position.Marks.TheVariants.{NoGuard}
use Rattle.rx_frames.specs.declared.position.Position.{Position}
use Rattle.rx_frames.specs.Frames.{Frame}
use Rattle.rx_frames.specs.Activities.{Activity, frames_at}
use Rattle.rx_flow.specs.Places.{todo_at}
use Rattle.rx_flow.specs.Todo.{Item}
use Rattle.rx_eval.specs.Pauses.{Pause, left_of}
use Rattle.rx_machine.specs.Todo.{Todo, clauses_in, untouched}
use Rattle.rx_kernel.specs.Readings.{reading}
use Rattle.rx_kernel.specs.Views.{frame_view}

-- this frame is on top of an activity's
abbrev pub IsTop : List (Activity Position) → ℕ → Frame Position → Type 0
IsTop activities a frame = slice_get (frames_at activities a) 0 ≡ Some frame

-- ---- in the code

-- it goes on at this place
abbrev pub gone_on : ℕ → Frame Position → Frame Position
gone_on place frame = record frame {
  todo = record frame.todo { place = place; operands = record { rest = None; call = NoCall }; marks = NoGuard };
}

-- it awaits the answer of a call, at the place of its clause
abbrev pub awaiting : ℕ → Pause → Awaited → Frame Position → Frame Position
awaiting place pause how frame = record frame {
  todo = record frame.todo { place = place; operands = record { rest = Some pause; call = Awaiting how }; marks = NoGuard };
}

-- it reserves its pool
abbrev pub taken : Frame Position → Frame Position
taken frame = record frame { asks = false; reserves = true }

-- ---- as the machine's frame

-- what is still to be done for it from this place on, once the loops are taken that it is in
abbrev pub items_from : Package → Frame Position → ℕ → List Item
items_from program frame place = todo_at (clauses_in program frame.body) place (reverse frame.todo.loops)

abbrev pub going_on : Package → Frame Position → ℕ → Frame Todo
going_on program frame place = record (frame_view (reading program) frame) { todo = untouched (items_from program frame place) }

abbrev pub going_to_wait : Package → Frame Position → ℕ → Pause → Awaited → Frame Todo
going_to_wait program frame place pause how = record (frame_view (reading program) frame) {
  todo = record (untouched (items_from program frame place)) { call = Awaiting how; trees = left_of pause };
}
