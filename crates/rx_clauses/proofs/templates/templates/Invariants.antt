use Rattle.std.proofs.Common.{◌≡◌, length}
use Rattle.rx_clauses.specs.Parsing.{template_at}
use Rattle.rx_clauses.specs.Forms.{separated_form}
use Rattle.rx_clauses.proofs.Lists.{prepended}
use Rattle.rx_clauses.proofs.templates.templates.Given as goal

abbrev pub invariant-loop-found : goal.invariant-loop-found
invariant-loop-found l = separated_form 38 (λ ts. template_at ts) l.fn.tokens ≡ prepended l.found (separated_form 38 (λ ts. template_at ts) l.tokens)

abbrev pub decreases-loop-found : goal.decreases-loop-found
decreases-loop-found l = length l.tokens
