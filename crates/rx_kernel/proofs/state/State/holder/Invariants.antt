use Rattle.std.proofs.Common.{◌≡◌, ◌+◌, drop}
use Rattle.rx_machine.specs.Enabled.{holder_from}
use Rattle.rx_kernel.specs.States.{world_of}
use Rattle.rx_kernel.proofs.state.State.holder.Given as goal

-- those that were passed don't hold it
abbrev pub invariant-loop-place : goal.invariant-loop-place
invariant-loop-place l =
    holder_from 1 (world_of l.self).activities l.a l.pool ≡ holder_from (l.place + 1) (drop l.place (world_of l.self).activities) l.a l.pool
