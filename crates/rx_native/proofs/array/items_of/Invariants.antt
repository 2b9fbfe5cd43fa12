use Rattle.std.proofs.Common.{◌≡◌, take}
use Rattle.rx_heap.specs.Objects.{places_at}
use Rattle.rx_native.specs.ArrayMethods.{items_of}
use Rattle.rx_native.proofs.array.items_of.Given as goal

abbrev pub invariant-loop-place : goal.invariant-loop-place
invariant-loop-place l = l.items.items ≡ items_of (take l.place (places_at l.heap l.array))
