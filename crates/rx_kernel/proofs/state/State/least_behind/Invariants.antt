use Rattle.std.proofs.Common.{◌≡◌, ◌+◌, drop}
use Rattle.rx_machine.specs.Enabled.{least_from}
use Rattle.rx_kernel.specs.States.{world_of}
use Rattle.rx_kernel.proofs.state.State.least_behind.Given as goal

-- those that were passed may not take a step
abbrev pub invariant-loop-place : goal.invariant-loop-place
invariant-loop-place l =
    least_from (world_of l.self) (l.last + 1) (drop l.last (world_of l.self).activities)
    ≡ least_from (world_of l.self) (l.place + 1) (drop l.place (world_of l.self).activities)
