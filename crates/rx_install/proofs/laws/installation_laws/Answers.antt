use Rattle.std.proofs.Common.{[]}
use Rattle.rx_install.proofs.OrderLemmas.{installs-in_turn, one-order, order-of_all}
use Rattle.rx_install.proofs.laws.installation_laws.Goals as goal

pub returns : goal.returns
returns c = record {
  one = one-order;
  all = order-of_all;
  turns = λ classes order way. installs-in_turn [] classes order [] way;
}
