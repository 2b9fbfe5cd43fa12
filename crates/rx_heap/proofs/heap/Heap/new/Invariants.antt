use Rattle.std.proofs.Common.{◌≡◌, ◌∷◌, replicate}
use Rattle.rx_heap.specs.declared.kind.Kind.TheVariants as kind
use Rattle.rx_heap.specs.Objects.{new_object}
use Rattle.rx_heap.proofs.heap.Heap.new.Given as goal

abbrev pub invariant-loop-made : goal.invariant-loop-made
invariant-loop-made l = l.objects.items ≡ new_object 2 kind.Plain ∷ replicate l._made (new_object 3 kind.ClassObject)
