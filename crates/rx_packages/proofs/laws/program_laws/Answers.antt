use Rattle.rx_packages.proofs.ProgramLemmas.{one-program}
use Rattle.rx_packages.proofs.ValidLemmas.{valid-program}
use Rattle.rx_packages.proofs.laws.program_laws.Goals as goal

pub returns : goal.returns
returns c = record {
  one = one-program;
  valid = valid-program;
}
