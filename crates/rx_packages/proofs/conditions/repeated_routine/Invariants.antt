use Rattle.std.proofs.Common.{◌≡◌, [], length}
use Rattle.rx_packages.specs.Conditions as spec
use Rattle.rx_packages.specs.Conditions.{keys}
use Rattle.rx_packages.proofs.conditions.repeated_routine.Given as goal

-- the names of the routines so far are the table's
abbrev pub invariant-loop-rest : goal.invariant-loop-rest
invariant-loop-rest l = spec.are_new [] l.directives ≡ spec.are_new (keys l.names) l.rest

abbrev pub decreases-loop-rest : goal.decreases-loop-rest
decreases-loop-rest l = length l.rest
