use Rattle.std.proofs.Common.{◌≡◌, length}
use Rattle.rx_clauses.specs.Forms.{options_form}
use Rattle.rx_clauses.proofs.forwards.options.Given as goal

abbrev pub invariant-loop-alloc : goal.invariant-loop-alloc
invariant-loop-alloc l = options_form l.initial.read l.fn.tokens ≡ options_form l.read l.tokens

abbrev pub decreases-loop-alloc : goal.decreases-loop-alloc
decreases-loop-alloc l = length l.tokens
