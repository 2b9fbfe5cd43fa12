use Rattle.rx_whole.proofs.DigitsLemmas.{ten_to_at_most}
use Rattle.rx_convfn.proofs.numbers.limit.Goals as goal

pub returns-clause-bound : goal.returns-clause-bound
returns-clause-bound c = rw (c.pow.ensures, c.from.ensures) (ten_to_at_most c.args.digits c.requires)
