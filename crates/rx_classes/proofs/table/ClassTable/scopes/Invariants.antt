use Rattle.std.proofs.Common.{◌≡◌, take}
use Rattle.rx_classes.specs.Lookup.{sides}
use Rattle.rx_classes.proofs.table.ClassTable.scopes.Given as goal

abbrev pub invariant-loop-class : goal.invariant-loop-class
invariant-loop-class l = l.found.items ≡ sides l.class_side (take l.class-index l.class-items)
