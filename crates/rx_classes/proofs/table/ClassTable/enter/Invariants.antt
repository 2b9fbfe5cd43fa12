use Rattle.std.proofs.Common.{◌≡◌, ◌++◌, take}
use Rattle.rx_classes.specs.Visits.{entering}
use Rattle.rx_classes.proofs.table.ClassTable.enter.Given as goal

abbrev pub invariant-loop-superclass : goal.invariant-loop-superclass
invariant-loop-superclass l = l.left.items ≡ l.fn.left.items ++ entering l.class (take l.superclass-index l.superclass-items)
