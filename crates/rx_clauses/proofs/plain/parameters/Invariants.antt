use Rattle.std.proofs.Common.{◌≡◌, length}
use Rattle.rx_clauses.specs.Plain.{parameter}
use Rattle.rx_clauses.specs.Forms.{separated_form}
use Rattle.rx_clauses.proofs.Lists.{prepended}
use Rattle.rx_clauses.proofs.plain.parameters.Given as goal

abbrev pub invariant-loop-found : goal.invariant-loop-found
invariant-loop-found l = separated_form 21 (λ ts. parameter ts) l.fn.tokens ≡ prepended l.found (separated_form 21 (λ ts. parameter ts) l.tokens)

abbrev pub decreases-loop-found : goal.decreases-loop-found
decreases-loop-found l = length l.tokens
