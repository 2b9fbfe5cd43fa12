use Rattle.std.proofs.Common.{arith}
use Rattle.rx_clauses.proofs.Lists.{template_less}
use Rattle.rx_clauses.proofs.templates.templates.Goals as goal

pub loop-found-smaller : goal.loop-found-smaller
loop-found-smaller c =
    let h = template_less c.in_ok-one.one c.loop-found.tokens c.template.new.tokens c.eat_comma.new.tokens c.in_ok-one.ensures c.if-not-eat_comma.ensures in
    omega arith
