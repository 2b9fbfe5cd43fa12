use Rattle.std.proofs.Common.{◌≡◌, drop}
use Rattle.rx_frames.specs.Activities.{frames_at}
use Rattle.rx_machine.specs.Enabled.{holds}
use Rattle.rx_kernel.specs.States.{world_of}
use Rattle.rx_kernel.proofs.state.State.holds.Given as goal

-- the frames that were passed don't reserve it
abbrev pub invariant-loop-down : goal.invariant-loop-down
invariant-loop-down l =
    holds (frames_at (world_of l.self).activities l.a) l.pool ≡ holds (drop l.down (frames_at (world_of l.self).activities l.a)) l.pool
