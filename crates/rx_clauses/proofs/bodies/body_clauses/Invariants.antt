use Rattle.std.proofs.Common.{◌≡◌, length}
use Rattle.rx_clause_tree.specs.declared.clause.Before.TheVariants.{Nothing}
use Rattle.rx_clauses.specs.Forms.{body_form}
use Rattle.rx_clauses.proofs.Lists.{prepended}
use Rattle.rx_clauses.proofs.bodies.body_clauses.Given as goal

abbrev pub invariant-loop-alloc : goal.invariant-loop-alloc
invariant-loop-alloc l = body_form Nothing l.fn.tokens ≡ prepended l.found (body_form l.before l.tokens)

abbrev pub decreases-loop-alloc : goal.decreases-loop-alloc
decreases-loop-alloc l = length l.tokens
