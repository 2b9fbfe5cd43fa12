use Rattle.rx_tree.specs.Equality.{equal-by}
use Rattle.rx_tree.proofs.equality.ExprPartialEq.eq.Goals as goal

pub returns : goal.returns
returns c = equal-by _ _ _ c.same_expr.ensures
