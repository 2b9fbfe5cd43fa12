use Rattle.std.proofs.Common.{◌≡◌, drop}
use Rattle.rx_frames.specs.Activities.{IsBegun}
use Rattle.rx_machine.specs.Arguments.{rows}
use Rattle.rx_machine.specs.Assigning.{assign_from}
use Rattle.rx_kernel.specs.States.{world_of}
use Rattle.rx_kernel.proofs.state.State.use_all.Given as goal

abbrev pub invariant-loop-parameter : goal.invariant-loop-parameter
invariant-loop-parameter l = record {
  begun : IsBegun l.self.parts.stacks l.a;
  left :
      assign_from (world_of l.initial.self) l.a (rows l.parameters l.initial.args l.initial.values)
      ≡ assign_from (world_of l.self) l.a (rows (drop l.parameter-index l.parameters) l.args l.values);
}
