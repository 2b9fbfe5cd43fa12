use Rattle.rx_exprs.proofs.Law.{fits_read, read_fits, one_fits}
use Rattle.rx_exprs.proofs.Fronts.{front}
use Rattle.rx_exprs.proofs.laws.expression_laws.Goals as goal

pub returns : goal.returns
returns c = record {
  reader = λ stops tokens expr rest. (fits_read stops tokens expr rest, read_fits stops tokens expr rest);
  one = one_fits;
  front = λ stops tokens expr rest is. front is.spelt;
}
