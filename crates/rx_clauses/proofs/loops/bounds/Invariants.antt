use Rattle.std.proofs.Common.{◌≡◌, [], length}
use Rattle.rx_clauses.specs.Forms.{bounds_form}
use Rattle.rx_clauses.proofs.loops.bounds.Given as goal

abbrev pub invariant-loop-read : goal.invariant-loop-read
invariant-loop-read l = bounds_form [] l.fn.tokens ≡ bounds_form l.read l.tokens

abbrev pub decreases-loop-read : goal.decreases-loop-read
decreases-loop-read l = length l.tokens
