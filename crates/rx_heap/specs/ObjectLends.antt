-- What an object ends as, once a `&mut` to what it holds has ended.
use Rattle.std.specs.Borrow.{Fml, MutBor, Lends}
use Rattle.rx_tree.specs.Object.{Object, Message}
use Rattle.rx_heap.specs.declared.message.MessageRow.{MessageRow}
use Rattle.rx_heap.specs.contracts.message.MessageRow.{the_row as message_row}
use Rattle.rx_heap.specs.contracts.object.Object.{the_row as object_row}
use Rattle.rx_heap.specs.Kept.{sending}

-- Its row is the last one behind r.
abbrev pub lends_message_of : MutBor Object → MutBor MessageRow → Fml
lends_message_of s r = Lends object_row message_row s r (λ w. record s.now { contents = Message (sending w) })
