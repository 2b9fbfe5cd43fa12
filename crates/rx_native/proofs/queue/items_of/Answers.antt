use Rattle.std.proofs.Common.{◌+◌, ◌-◌, arith}
use Rattle.std.specs.Option.{option_copied}
use Rattle.rx_heap.specs.Objects.{items_at}
use Rattle.rx_native.proofs.PlaceLemmas.{queue-turn}
use Rattle.rx_native.proofs.queue.items_of.Goals as goal

pub loop-place-preserved : goal.loop-place-preserved
loop-place-preserved c =
    queue-turn (items_at c.args.heap.now c.args.o) c.loop-place.items.items c.push_shared.new.items.items (option_copied c.queue_at.result)
    (c.loop-place.place + 1 - 1) c.loop-place.place c.loop-place.invariant c.queue_at.ensures.item (omega arith) c.in_ok-push_shared.ensures
