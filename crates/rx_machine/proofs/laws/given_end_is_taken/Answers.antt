use Rattle.rx_machine.proofs.WantLemmas.{end-is-taken}
use Rattle.rx_machine.proofs.laws.given_end_is_taken.Goals as goal

pub returns : goal.returns
returns c = record { law = end-is-taken }
