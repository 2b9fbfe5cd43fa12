use Rattle.std.proofs.Common.{sym, ◌∙◌}
use Rattle.rx_operators.proofs.NumberLemmas.{long_order}
use Rattle.rx_operators.proofs.comparison.order_by.Goals as goal

pub returns-in-Long : goal.returns-in-Long
returns-in-Long c = λ m n e. long_order m n c.args.order c.args.digits c.requires.at_most_18 (sym c.in-Long.is ∙ e)
