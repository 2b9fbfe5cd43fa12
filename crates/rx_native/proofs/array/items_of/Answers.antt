use Rattle.std.proofs.Common.{◌+◌, ◌-◌, arith}
use Rattle.std.specs.Option.{option_copied}
use Rattle.rx_heap.specs.Objects.{places_at}
use Rattle.rx_native.proofs.PlaceLemmas.{place-turn}
use Rattle.rx_native.proofs.array.items_of.Goals as goal

pub loop-place-preserved : goal.loop-place-preserved
loop-place-preserved c =
    place-turn (places_at c.args.heap.now c.args.array) c.loop-place.items.items c.push_shared.new.items.items (option_copied c.array_at.result)
    (c.loop-place.place + 1 - 1) c.loop-place.place c.loop-place.invariant c.array_at.ensures.item (omega arith)
    (omega (arith, c.loop-place-test.true, c.array_size-size.ensures.size)) c.in_ok-push_shared.ensures
