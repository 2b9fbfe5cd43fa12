use Rattle.rx_machine.proofs.WantLemmas.{line-is-taken}
use Rattle.rx_machine.proofs.laws.given_line_is_taken.Goals as goal

pub returns : goal.returns
returns c = record { law = line-is-taken }
