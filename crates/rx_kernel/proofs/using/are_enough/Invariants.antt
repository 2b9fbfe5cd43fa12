use Rattle.std.proofs.Common.{◌≡◌, drop}
use Rattle.rx_machine.specs.Arguments as spec
use Rattle.rx_kernel.proofs.using.are_enough.Given as goal

abbrev pub invariant-loop-parameter : goal.invariant-loop-parameter
invariant-loop-parameter l =
    spec.are_enough l.parameters l.initial.args ≡ spec.are_enough (drop l.parameter-index l.parameters) l.args
