use Rattle.std.proofs.Common.{◌≡◌, length}
use Rattle.rx_packages.specs.Conditions as spec
use Rattle.rx_packages.proofs.conditions.stray_clause.Given as goal

abbrev pub invariant-loop-rest : goal.invariant-loop-rest
invariant-loop-rest l = spec.are_plain l.directives ≡ spec.are_plain l.rest

abbrev pub decreases-loop-rest : goal.decreases-loop-rest
decreases-loop-rest l = length l.rest
