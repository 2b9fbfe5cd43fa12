use Rattle.rx_eval.proofs.FillLemmas.{filled_rest}
use Rattle.rx_eval.proofs.LawLemmas.{suffices}
use Rattle.rx_eval.proofs.NotingLemmas.{names_suffice}
use Rattle.rx_eval.proofs.laws.evaluation_laws.Goals as goal

pub returns : goal.returns
returns c = record { suffice = suffices; fills = filled_rest; names = names_suffice }
