use Rattle.std.proofs.Common.{◌≡◌, length}
use Rattle.rx_clauses.proofs.Lists.{prepended}
use Rattle.rx_directives.specs.Reader as spec
use Rattle.rx_directives.proofs.reading.directives.Given as goal

abbrev pub invariant-loop-alloc : goal.invariant-loop-alloc
invariant-loop-alloc l = spec.directives_form l.fn.tokens ≡ prepended l.found (spec.directives_form l.tokens)

abbrev pub decreases-loop-alloc : goal.decreases-loop-alloc
decreases-loop-alloc l = length l.tokens
