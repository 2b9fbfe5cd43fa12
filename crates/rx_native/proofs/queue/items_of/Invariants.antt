use Rattle.std.proofs.Common.{◌≡◌, take}
use Rattle.rx_heap.specs.Objects.{items_at}
use Rattle.rx_native.proofs.queue.items_of.Given as goal

abbrev pub invariant-loop-place : goal.invariant-loop-place
invariant-loop-place l = l.items.items ≡ take l.place (items_at l.heap l.o)
