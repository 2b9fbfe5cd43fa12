-- Errors that are raised. No frame of the language that runs traps one.
use Rattle.std.specs.Prelude.{ℕ, ◌==◌, List, [], ◌∷◌, ◌++◌, if◌then◌else◌}
use Rattle.rx_tree.specs.Object.{Object}
use Rattle.rx_tree.specs.declared.activity.Outcome.TheVariants as outcome
use Rattle.rx_tree.specs.declared.note.Note.TheVariants.{Error}
use Rattle.rx_frames.specs.declared.activity.Wait.TheVariants as wait
use Rattle.rx_frames.specs.Frames.{Frame}
use Rattle.rx_frames.specs.Activities.{Activity, activity_at, first_message, frames_at, waiting, with_change_at}
use Rattle.rx_sends.specs.Sending.{completed}
use Rattle.rx_machine.specs.Todo.{Todo}
use Rattle.rx_machine.specs.World.{World, Failed}

-- each of these frames ends, the top one first, and its Message, where it has one, has come to the error
abbrev pub unwound : List Object → List (Frame Todo) → ℕ → List Object
unwound objects [] number = objects
unwound objects (frame ∷ frames) number = unwound (completed objects frame.completes (outcome.Failed number)) frames number

-- the activity is over
abbrev pub over : Activity Todo → Activity Todo
over activity = waiting wait.Nothing []

-- The error of this number is raised by the clause at this line. It goes through the frames of the activity from the top, and none traps
-- it: each of them ends, and reserves no longer what it reserved, and then the activity does. Where its first message fails, which no
-- clause has sent, its Message has come to the error.
unfoldable pub raised : World → ℕ → ℕ → ℕ → World
raised w a number line = record w {
  objects = unwound (completed w.objects (first_message (activity_at w.activities a)) (outcome.Failed number)) (frames_at w.activities a) number;
  activities = with_change_at w.activities a over;
  notes = w.notes ++ Error number line a ∷ [];
  main = if a == 1 then Failed number else w.main;
}
