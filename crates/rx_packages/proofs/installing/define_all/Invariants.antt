use Rattle.std.proofs.Common.{◌≡◌, take}
use Rattle.rx_classes.specs.Installing.{CanInstall}
use Rattle.rx_packages.proofs.installing.define_all.Given as goal

-- the table has the classes so far
abbrev pub invariant-loop-class : goal.invariant-loop-class
invariant-loop-class l = record {
  table : l.table ≡ take l.class-index l.classes;
  can : CanInstall l.table;
}
