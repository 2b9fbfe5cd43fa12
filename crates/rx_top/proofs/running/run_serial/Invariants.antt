use Rattle.std.proofs.Common.{◌≡◌, ◌≤◌, ◌-◌}
use Rattle.rx_machine.specs.Runs.{last_of}
use Rattle.rx_top.specs.Ports.{Shrinks}
use Rattle.rx_top.specs.Running.{Goes}
use Rattle.rx_top.proofs.running.run_serial.Given as goal

-- the picks so far are a run over the lines that were read, and the last of them is the last
abbrev pub invariant-loop-a : goal.invariant-loop-a
invariant-loop-a g l = record {
  goes : Goes l.initial.kernel l.kernel (g.I.Source.left l.initial.input) (g.I.Source.left l.input) l.picks.items;
  last : l.last ≡ last_of 0 l.picks.items;
  later : g.I.Source.faults l.initial.input ≤ g.I.Source.faults l.input;
  shrinks : Shrinks (g.I.Source.left l.initial.input) (g.I.Source.left l.input);
}

abbrev pub decreases-loop-a : goal.decreases-loop-a
decreases-loop-a g l = l.kernel.budget - l.kernel.steps
