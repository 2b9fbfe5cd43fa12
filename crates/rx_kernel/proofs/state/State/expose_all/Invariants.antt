use Rattle.std.proofs.Common.{◌≡◌, drop}
use Rattle.rx_frames.specs.Activities.{IsBegun}
use Rattle.rx_machine.specs.Assigning.{expose_from}
use Rattle.rx_kernel.specs.States.{world_of}
use Rattle.rx_kernel.proofs.state.State.expose_all.Given as goal

abbrev pub invariant-loop-name : goal.invariant-loop-name
invariant-loop-name l = record {
  begun : IsBegun l.self.parts.stacks l.a;
  left : expose_from (world_of l.initial.self) l.a l.pool l.names ≡ expose_from (world_of l.self) l.a l.pool (drop l.name-index l.names);
}
