-- What is kept of objects, as the machine sees it.
use Rattle.std.specs.Prelude.{ℕ, List, [], ◌∷◌}
use Rattle.rx_tree.specs.Object.{Contents as Held, Sending}
use Rattle.rx_tree.specs.Object as machine
use Rattle.rx_heap.specs.declared.message.MessageRow.{MessageRow}
use Rattle.rx_heap.specs.declared.contents.Contents.{Contents}
use Rattle.rx_heap.specs.declared.contents.Contents.TheVariants.{Plain, ClassObject, Array, Queue, Directory, Message}
use Rattle.rx_heap.specs.Objects.{no_sending}

-- a Message's row
abbrev pub sending : MessageRow → Sending
sending row = record {
  target = row.target;
  name = row.name;
  args = row.args;
  used = row.used;
  outcome = row.outcome;
  notify = row.notify;
}

abbrev pub sending_in : List MessageRow → Sending
sending_in [] = no_sending
sending_in (row ∷ rows) = sending row

-- how many rows stand beside this: a Message's own
abbrev pub row_count : Contents → ℕ
row_count Message = 1
row_count _ = 0

-- what an object holds, by its rows
abbrev pub held : Contents → List MessageRow → Held
held Plain rows = machine.Plain
held ClassObject rows = machine.ClassObject
held (Array places) rows = machine.Places places
held (Queue items) rows = machine.Line items
held (Directory entries) rows = machine.Names entries
held Message rows = machine.Message (sending_in rows)
