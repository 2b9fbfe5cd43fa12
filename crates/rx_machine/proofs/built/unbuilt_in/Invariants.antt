use Rattle.std.proofs.Common.{◌≡◌, drop}
use Rattle.rx_machine.specs.Built as spec
use Rattle.rx_machine.proofs.built.unbuilt_in.Given as goal

abbrev pub invariant-loop-body : goal.invariant-loop-body
invariant-loop-body l = spec.unbuilt_in (drop l.body-index l.bodies) ≡ spec.unbuilt_in l.bodies
