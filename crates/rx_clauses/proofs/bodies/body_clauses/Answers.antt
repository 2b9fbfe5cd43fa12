use Rattle.std.proofs.Common.{sym, ◌∙◌, ap}
use Rattle.rx_clauses.specs.Forms.{body_form}
use Rattle.rx_clauses.proofs.Lists.{prepended}
use Rattle.rx_clauses.proofs.BodyForms.{body_more}
use Rattle.rx_clauses.proofs.bodies.body_clauses.Goals as goal

pub loop-alloc-preserved : goal.loop-alloc-preserved
loop-alloc-preserved c =
    c.loop-alloc.invariant
    ∙ body_more c.loop-alloc.before c.loop-alloc.found c.loop-alloc.tokens c.body_clause.new.tokens (c.in_ok-one.one, c.in_ok-one.next)
    (sym c.sees_body_end.ensures ∙ c.loop-alloc-test.true) c.in_ok-one.ensures
    ∙ ap (λ list. prepended list (body_form c.in_ok-one.next c.body_clause.new.tokens)) (sym c.in_ok-push.ensures.ok)
