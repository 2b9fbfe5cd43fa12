use Rattle.std.proofs.Common.{◌≡◌, ◌++◌, ◌+◌, ◌*◌, ◌<◌, length}
use Rattle.rx_directives.specs.Packages as spec
use Rattle.rx_directives.proofs.classes.classes_of.Given as goal

abbrev pub invariant-loop-rest : goal.invariant-loop-rest
invariant-loop-rest l = record {
  made : spec.classes_of 0 l.directives ≡ l.classes ++ spec.classes_of l.body l.rest;
  few : l.body + 2 * length l.rest < 4294967296;
}

abbrev pub decreases-loop-rest : goal.decreases-loop-rest
decreases-loop-rest l = length l.rest
