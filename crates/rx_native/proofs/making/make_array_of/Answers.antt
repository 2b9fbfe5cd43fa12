use Rattle.std.proofs.Common.{◌∙◌, ◌+◌, ◌-◌, take, Some, arith}
use Rattle.std.specs.Prelude.{map}
use Rattle.rx_classes.specs.Natives.{array_class}
use Rattle.rx_native.proofs.PlaceLemmas.{item-turn, made-put}
use Rattle.rx_native.proofs.making.make_array_of.Goals as goal

pub loop-item-preserved : goal.loop-item-preserved
loop-item-preserved c = (
  omega (arith, c.loop-item.invariant.0),
  c.in_ok-array_put.ensures.ok
      ∙ made-put c.args.heap.now c.loop-item.heap array_class c.in_ok-array.array (map Some (take c.loop-item.item-index c.args.items.now))
      (map Some (take (c.loop-item.item-index + 1) c.args.items.now)) (c.loop-item.i + 1 - 1) c.in_ok-share.field-0
      c.loop-item.invariant.1 c.in_ok-array.ensures.number
      (item-turn c.args.items.now c.loop-item.i c.loop-item.item-index c.item-item.result c.in_ok-share.field-0
      c.loop-item.invariant.0 c.loop-item-test.true (c.in_ok-share.ensures.same ∙ c.item-item.is)),
)
