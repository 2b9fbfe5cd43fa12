-- PUSH and QUEUE.
use Rattle.std.specs.Prelude.{List, [], ◌∷◌, ◌++◌}
use Rattle.rx_tree.specs.declared.value.Value.{Value}
use Rattle.rx_machine.specs.Values.{text_of}
use Rattle.rx_machine.specs.World.{World}
use Rattle.rx_machine.specs.Turns.{Turn, goes_on}

-- `PUSH [e]` puts a line in front of the queue, which PULL takes first.
abbrev pub pushes : Turn → List Value → World
pushes t values = record (goes_on t) { queue = text_of values ∷ t.world.queue }

-- `QUEUE [e]` puts one at its end.
abbrev pub queues : Turn → List Value → World
queues t values = record (goes_on t) { queue = t.world.queue ++ text_of values ∷ [] }
