use Rattle.std.proofs.Common.{◌≡◌, drop}
use Rattle.rx_native.specs.ClassMethods.{kind_in}
use Rattle.rx_native.proofs.class.kind_in.Given as goal

abbrev pub invariant-loop-class : goal.invariant-loop-class
invariant-loop-class l = kind_in l.order ≡ kind_in (drop l.class-index l.order)
