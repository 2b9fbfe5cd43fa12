use Rattle.rx_machine.proofs.WantLemmas.{wants-where}
use Rattle.rx_machine.proofs.laws.wants_are_empty.Goals as goal

pub returns : goal.returns
returns c = record { law = wants-where }
