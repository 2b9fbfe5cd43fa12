use Rattle.std.proofs.Common.{◌≡◌, length}
use Rattle.rx_clauses.proofs.Lists.{prepended}
use Rattle.rx_directives.specs.Reader as spec
use Rattle.rx_directives.proofs.heads.mixins.Given as goal

abbrev pub invariant-loop-alloc : goal.invariant-loop-alloc
invariant-loop-alloc l = spec.mixins l.fn.tokens ≡ prepended l.names (spec.mixins l.tokens)

abbrev pub decreases-loop-alloc : goal.decreases-loop-alloc
decreases-loop-alloc l = length l.tokens
