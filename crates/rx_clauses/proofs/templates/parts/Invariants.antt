use Rattle.std.proofs.Common.{◌≡◌, length}
use Rattle.rx_clauses.specs.Forms.{parts_form}
use Rattle.rx_clauses.proofs.Lists.{prepended}
use Rattle.rx_clauses.proofs.templates.parts.Given as goal

abbrev pub invariant-loop-alloc : goal.invariant-loop-alloc
invariant-loop-alloc l = parts_form l.fn.tokens ≡ prepended l.parts (parts_form l.tokens)

abbrev pub decreases-loop-alloc : goal.decreases-loop-alloc
decreases-loop-alloc l = length l.tokens
