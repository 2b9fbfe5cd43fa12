use Rattle.std.proofs.Common.{◌≡◌, drop}
use Rattle.rx_frames.specs.Activities.{IsBegun}
use Rattle.rx_machine.specs.Assigning.{assign_from}
use Rattle.rx_kernel.specs.States.{world_of}
use Rattle.rx_kernel.proofs.state.State.assign_all.Given as goal

abbrev pub invariant-loop-row : goal.invariant-loop-row
invariant-loop-row l = record {
  begun : IsBegun l.self.parts.stacks l.a;
  left : assign_from (world_of l.initial.self) l.a l.rows ≡ assign_from (world_of l.self) l.a (drop l.row-index l.rows);
}
