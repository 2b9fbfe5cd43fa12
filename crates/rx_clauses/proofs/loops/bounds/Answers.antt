use Rattle.std.proofs.Common.{◌∙◌, ap}
use Rattle.rx_clauses.proofs.Sure.{outcome}
use Rattle.rx_clauses.proofs.Lists.{bounds_end}
use Rattle.rx_clauses.proofs.loops.bounds.Goals as goal

pub returns-in_default : goal.returns-in_default
returns-in_default c =
    c.loop-read.invariant ∙ bounds_end c.loop-read.read c.loop-read.tokens c.bound.new.tokens (c.in_ok-one.ensures ∙ ap (λ x. outcome x c.bound.new.tokens) c.in_default.is)
