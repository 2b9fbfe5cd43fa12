-- What the activities wait for.
use Rattle.std.specs.Prelude.{ℕ, if◌then◌else◌, List, [], Option, None, Some}
use Rattle.rx_frames.specs.declared.parts.Own.{Own}
use Rattle.rx_frames.specs.declared.position.Position.{Position}
use Rattle.rx_frames.specs.Frames.{Frame}
use Rattle.rx_frames.specs.Activities.{Activity, activity_at}
use Rattle.rx_machine.specs.declared.waits.Cause.{Cause}
use Rattle.rx_machine.specs.declared.waits.WaitRow.{WaitRow}
use Rattle.rx_machine.specs.Enabled.{is_live}
use Rattle.rx_machine.specs.End.{cause_of, row_before}
use Rattle.rx_machine.specs.Todo.{Todo}
use Rattle.rx_machine.specs.World.{World}

-- the object, the scope and the pool of a frame, if there is one
abbrev pub own_if : Option (Frame Position) → Option Own
own_if None = None
own_if (Some frame) = frame.own

-- what an activity waits for, if it is live and waits
abbrev pub cause_if : World → ℕ → Option (Activity Todo) → Option Cause
cause_if w a None = None
cause_if w a (Some activity) = if is_live activity.state then cause_of w a activity else None

abbrev pub cause_at : World → ℕ → Option Cause
cause_at w a = cause_if w a (activity_at w.activities a)

-- its row, if it waits
abbrev pub row_at : World → ℕ → List WaitRow
row_at w a = row_before a (cause_at w a) []
