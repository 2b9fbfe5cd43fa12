use Rattle.rx_classes.proofs.WayLemmas.{IsSame}
use Rattle.rx_classes.proofs.table.ClassTable.is_above.Given as goal

abbrev pub invariant-loop-next : goal.invariant-loop-next
invariant-loop-next l = IsSame l.self l.above l.class l.next

abbrev pub decreases-loop-next : goal.decreases-loop-next
decreases-loop-next l = l.next
