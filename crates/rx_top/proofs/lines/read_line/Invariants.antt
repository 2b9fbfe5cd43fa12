use Rattle.std.proofs.Common.{◌≤◌, ◌-◌, length}
use Rattle.std.specs.Io.KnownBytes.{Consumes}
use Rattle.rx_machine.specs.Input.{longest_line}
use Rattle.rx_top.proofs.LineLemmas.{IsBegun}
use Rattle.rx_top.proofs.lines.read_line.Given as goal

-- the bytes so far begin a line, and were taken of the input
abbrev pub invariant-loop-input : goal.invariant-loop-input
invariant-loop-input g l = record {
  begun : IsBegun l.line.items;
  taken : Consumes (g.I.Source.left l.initial.input) (g.I.Source.left l.input) l.line.items;
  later : g.I.Source.faults l.initial.input ≤ g.I.Source.faults l.input;
}

abbrev pub decreases-loop-input : goal.decreases-loop-input
decreases-loop-input g l = longest_line - length l.line.items
