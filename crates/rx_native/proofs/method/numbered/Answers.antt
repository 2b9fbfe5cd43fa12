use Rattle.rx_native.proofs.MethodLemmas.{numbered}
use Rattle.rx_native.proofs.method.numbered.Goals as goal

pub returns : goal.returns
returns c = numbered c.args.table.now 6 c.args.id c.at.result c.at.ensures c.requires
