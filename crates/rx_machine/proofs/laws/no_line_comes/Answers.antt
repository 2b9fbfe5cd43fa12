use Rattle.rx_machine.proofs.GrowthLemmas.{no-line-comes}
use Rattle.rx_machine.proofs.laws.no_line_comes.Goals as goal

pub returns : goal.returns
returns c = record { law = no-line-comes }
