use Rattle.std.proofs.Common.{◌≡◌, ◌-◌, ◌++◌, length, take, None}
use Rattle.std.specs.Prelude.{replicate}
use Rattle.rx_tree.specs.Object.{Places}
use Rattle.rx_classes.specs.Natives.{array_class}
use Rattle.rx_native.specs.Outcomes.{with_object}
use Rattle.rx_sends.proofs.unknown.make_array.Given as goal

abbrev pub invariant-loop-argument : goal.invariant-loop-argument
invariant-loop-argument l =
    (l.i ≡ l.argument-index)
    × (l.heap ≡ with_object l.fn.heap array_class
    (Places (take l.argument-index l.args ++ replicate (length l.args - l.argument-index) None)))
