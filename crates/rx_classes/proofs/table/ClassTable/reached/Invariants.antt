use Rattle.std.proofs.Common.{reverse}
use Rattle.rx_classes.proofs.VisitLemmas.{IsOnWay, steps_left}
use Rattle.rx_classes.proofs.table.ClassTable.reached.Given as goal

abbrev pub invariant-loop-visit : goal.invariant-loop-visit
invariant-loop-visit l = IsOnWay l.self l.class l.left.items (reverse l.reached.keys)

abbrev pub decreases-loop-visit : goal.decreases-loop-visit
decreases-loop-visit l = steps_left l.self l.left.items
