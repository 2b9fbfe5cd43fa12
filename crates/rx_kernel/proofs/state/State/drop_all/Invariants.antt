use Rattle.std.proofs.Common.{◌≡◌, drop, map}
use Rattle.rx_frames.specs.Activities.{IsBegun}
use Rattle.rx_machine.specs.Assigning.{assign_from}
use Rattle.rx_machine.specs.Variables.{dropped}
use Rattle.rx_kernel.specs.States.{world_of}
use Rattle.rx_kernel.proofs.state.State.drop_all.Given as goal

abbrev pub invariant-loop-name : goal.invariant-loop-name
invariant-loop-name l = record {
  begun : IsBegun l.self.parts.stacks l.a;
  left :
      assign_from (world_of l.initial.self) l.a (map dropped l.names)
      ≡ assign_from (world_of l.self) l.a (map dropped (drop l.name-index l.names));
}
