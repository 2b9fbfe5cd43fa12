use Rattle.std.proofs.Common.{◌≡◌, take, Some}
use Rattle.std.specs.Prelude.{map}
use Rattle.rx_tree.specs.Object.{Places}
use Rattle.rx_classes.specs.Natives.{array_class}
use Rattle.rx_native.specs.Outcomes.{with_object}
use Rattle.rx_native.proofs.making.make_array_of.Given as goal

abbrev pub invariant-loop-item : goal.invariant-loop-item
invariant-loop-item l =
    (l.i ≡ l.item-index) × (l.heap ≡ with_object l.fn.heap array_class (Places (map Some (take l.item-index l.items))))
