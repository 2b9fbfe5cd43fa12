use Rattle.std.proofs.Common.{sym, ◌∙◌}
use Rattle.rx_operators.proofs.NumberLemmas.{long_calculated}
use Rattle.rx_operators.specs.Operators.{operator_of}
use Rattle.rx_operators.proofs.arithmetic.calculate.Goals as goal

pub returns-in-Long : goal.returns-in-Long
returns-in-Long c = λ m n e. long_calculated (operator_of c.args.operator) m n c.args.digits c.requires.at_most_18 (sym c.in-Long.is ∙ e)
