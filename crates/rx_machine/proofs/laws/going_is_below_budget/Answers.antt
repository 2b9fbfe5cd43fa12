use Rattle.rx_machine.proofs.RunLemmas.{going-below}
use Rattle.rx_machine.proofs.laws.going_is_below_budget.Goals as goal

pub returns : goal.returns
returns c = record { law = going-below }
