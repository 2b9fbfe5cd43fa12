-- Frames that end.
use Rattle.std.specs.Prelude.{ℕ, ◌==◌, List, [], ◌∷◌, drop, Option, None, Some, option_map, if◌then◌else◌}
use Rattle.rx_tree.specs.declared.activity.Outcome.TheVariants as outcome
use Rattle.rx_tree.specs.declared.value.Value.{Value}
use Rattle.rx_tree.specs.declared.value.Value.TheVariants.{Ref}
use Rattle.rx_frames.specs.declared.parts.Own.{Own}
use Rattle.rx_frames.specs.Frames.{Frame}
use Rattle.rx_frames.specs.Activities.{Activity, frames_at, with_change_at, with_frames}
use Rattle.rx_native.specs.Outcomes.{or_nil}
use Rattle.rx_sends.specs.Sending.{answered_above, completed}
use Rattle.rx_machine.specs.Todo.{Todo, by_clauses}
use Rattle.rx_machine.specs.World.{World, Ending, NoValue, Given}

-- the activity without its top frame: it is over where no frame is left
abbrev pub without_top : Activity Todo → Activity Todo
without_top activity = with_frames (drop 1 activity.frames) activity

-- INIT that NEW sent gives the object, whatever it ends with
abbrev pub given_by : Frame Todo → Option Value → Option Value
given_by frame value = if frame.made then option_map (λ (own : Own). Ref own.object) frame.own else value

abbrev pub ending_of : Option Value → Ending
ending_of None = NoValue
ending_of (Some value) = Given value

-- how the main program ended, once this activity is over with a value or without one
abbrev pub main_after : World → ℕ → Option Value → Ending
main_after w a value = if a == 1 then ending_of value else w.main

-- the frame beneath has the value, if there is one; else the activity is over
abbrev pub handed : World → ℕ → Option Value → List (Frame Todo) → World
handed w a value [] = record w { main = main_after w a value }
handed w a value (frame ∷ frames) = record w { activities = answered_above (by_clauses w.program) w.activities a value }

-- The frame on top ends, and gives back its reservation. It completes its Message, which has `.nil` where the frame gives no value, and
-- gives its value to the frame beneath.
unfoldable pub ended : World → ℕ → Frame Todo → Option Value → World
ended w a frame value =
    let given = given_by frame value in
    let after = record w {
      objects = completed w.objects frame.completes (outcome.Given (or_nil given));
      activities = with_change_at w.activities a without_top;
    } in
    handed after a given (frames_at after.activities a)
