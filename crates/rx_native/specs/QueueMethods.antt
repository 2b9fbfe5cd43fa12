-- What the methods of Queue come to, by the number of the Queue.
use Rattle.std.specs.Prelude.{ℕ, ◌-◌, List, [], ◌∷◌, ◌++◌, length, drop, slice_get, Ok}
use Rattle.rx_tree.specs.Object.{Object, Line}
use Rattle.rx_tree.specs.declared.value.Value.{Value}
use Rattle.rx_heap.specs.Objects.{items_at, with_contents}
use Rattle.rx_native.specs.declared.answer.NativeAnswer.TheVariants as a
use Rattle.rx_native.specs.declared.queue.OfQueue.{OfQueue}
use Rattle.rx_native.specs.declared.queue.OfQueue.TheVariants as m
use Rattle.rx_native.specs.Outcomes.{Outcome, on, gives, changes, or_nil, number_value}
use Rattle.rx_native.specs.Arguments.{Arguments, no_argument, value_alone, index_alone}
use Rattle.rx_native.specs.ArrayMethods.{makes_array_of}

abbrev pub queue_answer : OfQueue → List Object → ℕ → Arguments → Outcome
queue_answer m.Queue objects queue args =
    on (value_alone args) (λ (value : Value). changes (with_contents objects queue (Line (items_at objects queue ++ value ∷ []))))
queue_answer m.Push objects queue args =
    on (value_alone args) (λ (value : Value). changes (with_contents objects queue (Line (value ∷ items_at objects queue))))
queue_answer m.Pull objects queue args =
    on (no_argument args) (λ (none : Unit {0}).
    Ok (a.Value (or_nil (slice_get (items_at objects queue) 0)), with_contents objects queue (Line (drop 1 (items_at objects queue)))))
queue_answer m.Peek objects queue args =
    on (no_argument args) (λ (none : Unit {0}). gives objects (or_nil (slice_get (items_at objects queue) 0)))
queue_answer m.Items objects queue args =
    on (no_argument args) (λ (none : Unit {0}). gives objects (number_value (length (items_at objects queue))))
queue_answer m.At objects queue args =
    on (index_alone args) (λ (i : ℕ). gives objects (or_nil (slice_get (items_at objects queue) (i - 1))))
queue_answer m.Makearray objects queue args =
    on (no_argument args) (λ (none : Unit {0}). makes_array_of objects (items_at objects queue))
