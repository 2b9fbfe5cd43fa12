use Rattle.std.proofs.Common.{◌≡◌, drop}
use Rattle.rx_machine.specs.Built as spec
use Rattle.rx_machine.proofs.built.unbuilt_line.Given as goal

abbrev pub invariant-loop-clause : goal.invariant-loop-clause
invariant-loop-clause l = spec.unbuilt_line (drop l.clause-index l.clauses) ≡ spec.unbuilt_line l.clauses
