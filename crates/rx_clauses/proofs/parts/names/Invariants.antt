use Rattle.std.proofs.Common.{◌≡◌, length}
use Rattle.rx_clauses.specs.Parts.{names}
use Rattle.rx_clauses.proofs.Lists.{prepended}
use Rattle.rx_clauses.proofs.parts.names.Given as goal

abbrev pub invariant-loop-alloc : goal.invariant-loop-alloc
invariant-loop-alloc l = names l.fn.tokens ≡ prepended l.names (names l.tokens)

abbrev pub decreases-loop-alloc : goal.decreases-loop-alloc
decreases-loop-alloc l = length l.tokens
