-- What the objects end as, once a `&mut` to what one of them holds has ended.
use Rattle.std.specs.Prelude.{ℕ, List}
use Rattle.std.specs.Borrow.{Fml, MutBor, Lends}
use Rattle.rx_tree.specs.Object.{Object, Message}
use Rattle.rx_heap.specs.declared.message.MessageRow.{MessageRow}
use Rattle.rx_heap.specs.contracts.message.MessageRow.{the_row as message_row}
use Rattle.rx_heap.specs.contracts.heap.Heap.{the_row as heap_row}
use Rattle.rx_heap.specs.Kept.{sending}
use Rattle.rx_heap.specs.Objects.{with_contents}

-- Its row is the last one behind r.
abbrev pub lends_message : MutBor (List Object) → ℕ → MutBor MessageRow → Fml
lends_message s number r = Lends heap_row message_row s r (λ w. with_contents s.now number (Message (sending w)))
