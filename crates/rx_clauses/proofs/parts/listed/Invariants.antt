use Rattle.std.proofs.Common.{◌≡◌, length}
use Rattle.rx_clauses.specs.Parts.{argument}
use Rattle.rx_clauses.specs.Forms.{separated_form}
use Rattle.rx_clauses.proofs.Lists.{prepended}
use Rattle.rx_clauses.proofs.parts.listed.Given as goal

abbrev pub invariant-loop-args : goal.invariant-loop-args
invariant-loop-args l = separated_form 21 (λ ts. argument ts) l.fn.tokens ≡ prepended l.args (separated_form 21 (λ ts. argument ts) l.tokens)

abbrev pub decreases-loop-args : goal.decreases-loop-args
decreases-loop-args l = length l.tokens
