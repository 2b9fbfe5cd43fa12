use Rattle.rx_scan.proofs.CutLemmas.{spells-once}
use Rattle.rx_scan.proofs.scanner.at_most_one_spelling.Goals as goal

pub returns : goal.returns
returns c = record { law = spells-once }
