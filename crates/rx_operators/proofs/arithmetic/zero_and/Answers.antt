use Rattle.std.proofs.Common.{pos, Some}
use Rattle.rx_whole.specs.Number.{num}
use Rattle.rx_operators.proofs.NumberLemmas.{zero_long}
use Rattle.rx_operators.proofs.arithmetic.zero_and.Goals as goal

pub returns : goal.returns
returns c = c.operands_of.ensures (Some (pos 0)) (num c.args.a.now) zero_long c.read_number.ensures.numeral
