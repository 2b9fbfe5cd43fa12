use Rattle.rx_clauses.proofs.Ways.{popped}
use Rattle.rx_clauses.proofs.blocks.leave_loop.Goals as goal

pub returns : goal.returns
returns c = popped c.args.loops.now c.pop.new.self c.pop.result c.pop.ensures
