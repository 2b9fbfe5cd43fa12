use Rattle.std.proofs.Common.{◌≡◌, drop}
use Rattle.rx_machine.specs.End.{any_live}
use Rattle.rx_kernel.specs.States.{world_of}
use Rattle.rx_kernel.proofs.state.State.is_any_live.Given as goal

-- those that were passed aren't live
abbrev pub invariant-loop-place : goal.invariant-loop-place
invariant-loop-place l = any_live (world_of l.self).activities ≡ any_live (drop l.place (world_of l.self).activities)
