use Rattle.std.proofs.Common.{arith}
use Rattle.rx_clauses.proofs.Lists.{part_less}
use Rattle.rx_clauses.proofs.templates.parts.Goals as goal

pub loop-alloc-smaller : goal.loop-alloc-smaller
loop-alloc-smaller c = let h = part_less c.loop-alloc.tokens c.part.new.tokens c.in_ok-part.part c.in_ok-part.ensures in omega arith
