use Rattle.rx_text.proofs.Order.{order_by_parts}
use Rattle.rx_text.proofs.comparison.compare_stripped.Goals as goal

pub returns : goal.returns
returns c = let e = order_by_parts c.args.a.now c.args.b.now in record { order = cc }
