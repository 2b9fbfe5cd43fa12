use Rattle.std.proofs.Common.{◌≡◌, drop}
use Rattle.rx_machine.specs.Built as spec
use Rattle.rx_machine.proofs.built.defaults_run.Given as goal

abbrev pub invariant-loop-parameter : goal.invariant-loop-parameter
invariant-loop-parameter l = spec.defaults_run (drop l.parameter-index l.parameters) ≡ spec.defaults_run l.parameters
