use Rattle.std.proofs.Common.{◌≡◌, ◌∷◌, take}
use Rattle.std.specs.List.{filter_map}
use Rattle.rx_classes.specs.Classes.{class_named}
use Rattle.rx_classes.proofs.table.ClassTable.numbers_of.Given as goal

abbrev pub invariant-loop-name : goal.invariant-loop-name
invariant-loop-name l = l.numbers ≡ l.parent ∷ filter_map (class_named l.self) (take l.name-index l.names)
