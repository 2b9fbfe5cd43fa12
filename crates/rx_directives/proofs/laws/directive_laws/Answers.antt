use Rattle.rx_directives.proofs.Law.{form-read}
use Rattle.rx_directives.proofs.Places.{one, written}
use Rattle.rx_directives.proofs.laws.directive_laws.Goals as goal

pub returns : goal.returns
returns c = record {
  reader = λ tokens found. (λ fits. form-read fits, λ is. written tokens _ found is);
  one = one;
}
