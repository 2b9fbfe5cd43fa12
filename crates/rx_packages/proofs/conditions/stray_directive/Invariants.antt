use Rattle.std.proofs.Common.{◌≡◌, length}
use Rattle.rx_packages.specs.Conditions as spec
use Rattle.rx_packages.proofs.conditions.stray_directive.Given as goal

abbrev pub invariant-loop-rest : goal.invariant-loop-rest
invariant-loop-rest l = spec.are_placed l.directives ≡ spec.are_placed l.rest

abbrev pub decreases-loop-rest : goal.decreases-loop-rest
decreases-loop-rest l = length l.rest
