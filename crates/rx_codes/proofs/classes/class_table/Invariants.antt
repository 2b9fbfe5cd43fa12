use Rattle.std.proofs.Common.{◌≡◌, take}
use Rattle.rx_codes.proofs.classes.class_table.Given as goal

abbrev pub invariant-loop-class : goal.invariant-loop-class
invariant-loop-class l = l.table ≡ take l.class-index l.classes
