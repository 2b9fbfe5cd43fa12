-- What is to be seen of the activities of the code: who may step.
use Rattle.std.specs.Prelude.{ℕ, ◌&&◌, Bool, true, false, is_none, Option, None, Some}
use Rattle.rx_frames.specs.declared.activity.Look.{Look}
use Rattle.rx_frames.specs.declared.activity.Look.TheVariants as look
use Rattle.rx_frames.specs.declared.position.Position.{Position}
use Rattle.rx_frames.specs.Frames.{Frame}
use Rattle.rx_frames.specs.Activities.{Activity}
use Rattle.rx_machine.specs.Enabled.{holder_from, is_live, is_on}
use Rattle.rx_machine.specs.World.{World}

-- ---- frames

-- the frame reserves the pool of this number
abbrev pub reserves : ℕ → Frame Position → Bool
reserves pool frame = frame.reserves && is_on pool frame.own

abbrev pub reserves_if : ℕ → Option (Frame Position) → Bool
reserves_if pool None = false
reserves_if pool (Some frame) = reserves pool frame

-- ---- activities

abbrev pub is_live_if : {Todo : Type 0} → Option (Activity Todo) → Bool
is_live_if None = false
is_live_if (Some activity) = is_live activity.state

-- what is seen of an activity that is live
abbrev pub tells_live : Look → Bool
tells_live look.Ended = false
tells_live _ = true

-- whether activity a may take a step, of which this is seen
abbrev pub may_step_by : World → ℕ → Look → Bool
may_step_by w a look.Ended = false
may_step_by w a (look.Asks pool) = is_none (holder_from 1 w.activities a pool)
may_step_by w a _ = true
