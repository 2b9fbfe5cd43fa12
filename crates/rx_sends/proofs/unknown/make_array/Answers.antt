use Rattle.std.proofs.Common.{◌∙◌, ◌+◌, ◌-◌, ◌++◌, List, length, take, Option, None, Some, refl, sym, ap, arith}
use Rattle.std.specs.Prelude.{replicate}
use Rattle.rx_tree.specs.Object.{Places}
use Rattle.rx_tree.specs.declared.value.Value.{Value}
use Rattle.rx_classes.specs.Natives.{array_class}
use Rattle.rx_native.specs.Outcomes.{with_object}
use Rattle.rx_native.proofs.PlaceLemmas.{given-turn, made-array, made-put, made-size, none-turn}
use Rattle.rx_sends.proofs.unknown.make_array.Goals as goal
use Rattle.rx_sends.proofs.unknown.make_array.Goals.{in-Some+in_ok-share-in-Some+in_ok-array_put-in-Some, in-None}

pub loop-argument-init : goal.loop-argument-init
loop-argument-init c = (
  refl,
  c.in_ok-array_resize.ensures.ok
      ∙ made-size c.args.heap.now c.make_empty.new.heap array_class c.in_ok-array.array (length c.args.args.now) c.in_ok-array.ensures.ok
      c.in_ok-array.ensures.number,
)

pub array_put-requires-clause-array : goal.array_put-requires-clause-array
array_put-requires-clause-array c =
    made-array c.args.heap.now c.loop-argument.heap array_class c.in_ok-array.array _ c.loop-argument.invariant.1 c.in_ok-array.ensures.number

pub loop-argument-preserved : goal.loop-argument-preserved
loop-argument-preserved c = (
  omega (arith, c.loop-argument.invariant.0),
  elim c.match-argument.branch [
    | in-Some+in_ok-share-in-Some+in_ok-array_put-in-Some w ↦
        w.heap-is ∙ (w.in_ok-array_put-in-Some.ensures.ok
        ∙ made-put c.args.heap.now c.loop-argument.heap array_class c.in_ok-array.array
        (take c.loop-argument.argument-index c.args.args.now ++ replicate (length c.args.args.now - c.loop-argument.argument-index) None)
        (take (c.loop-argument.argument-index + 1) c.args.args.now
        ++ replicate (length c.args.args.now - (c.loop-argument.argument-index + 1)) None)
        (c.loop-argument.i + 1 - 1) w.in_ok-share-in-Some.field-0 c.loop-argument.invariant.1 c.in_ok-array.ensures.number
        (given-turn c.args.args.now c.loop-argument.i c.loop-argument.argument-index c.argument-item.result w.in_ok-share-in-Some.field-0
        c.loop-argument.invariant.0 c.loop-argument-test.true
        (sym c.argument-item.is ∙ (w.in-Some.is ∙ ap (λ (v : Value). Some v) (sym w.in_ok-share-in-Some.ensures.same)))))
    | in-None w ↦
        w.heap-is ∙ (c.loop-argument.invariant.1
        ∙ ap (λ (places : List (Option Value)). with_object c.args.heap.now array_class (Places places))
        (none-turn c.args.args.now c.loop-argument.argument-index c.argument-item.result c.loop-argument-test.true
        (sym c.argument-item.is ∙ w.in-None.is)))
  ],
)
