use Rattle.rx_whole.proofs.DigitsLemmas.{ten_to_at_most, ten_to_at_least}
use Rattle.rx_whole.proofs.digits.limit.Goals as goal

pub returns-clause-bound : goal.returns-clause-bound
returns-clause-bound c = rw (c.pow.ensures, c.from.ensures) (ten_to_at_most c.args.digits c.requires)

pub returns-clause-least : goal.returns-clause-least
returns-clause-least c h = rw (c.pow.ensures, c.from.ensures) (ten_to_at_least c.args.digits h)
