-- What clauses do to a world in which the frame on top has gone on already.
use Rattle.std.specs.Prelude.{◌≡◌, ℕ, List, [], ◌∷◌, ◌++◌, Result, Ok, Err}
use Rattle.rx_tree.specs.declared.value.Value.{Value}
use Rattle.rx_names.specs.declared.tail.NamesRefused.{NamesRefused}
use Rattle.rx_names.specs.declared.tail.NamesRefused.TheVariants as refused
use Rattle.rx_native.specs.Outcomes.{resources_exhausted}
use Rattle.rx_machine.specs.Assigning.{Assigned, All, TooLong}
use Rattle.rx_machine.specs.Outputs.{line_said}
use Rattle.rx_machine.specs.Raising.{raised}
use Rattle.rx_machine.specs.Values.{text_of}
use Rattle.rx_machine.specs.World.{World}

-- ---- lines

-- SAY has written a line
abbrev pub said : World → List Value → World
said w values = record w { output = w.output ++ line_said values }

-- PUSH has put a line in front of the queue
abbrev pub pushed : World → List Value → World
pushed w values = record w { queue = text_of values ∷ w.queue }

-- QUEUE has put one at its end
abbrev pub queued : World → List Value → World
queued w values = record w { queue = w.queue ++ text_of values ∷ [] }

-- ---- names

-- All is done, or error 5 is raised at a name that is too long, by an activity's clause at this line.
abbrev pub after_assigning : ℕ → ℕ → Assigned → World
after_assigning a line (All w) = w
after_assigning a line (TooLong w) = raised w a resources_exhausted line

-- What names come to, as a call tells it, with the world then; or else memory is wanting.
abbrev pub Comes : Result (Unit {0}) NamesRefused → World → Assigned → Type 0
Comes (Ok done) w assigned = assigned ≡ All w
Comes (Err refused.Long) w assigned = assigned ≡ TooLong w
Comes (Err refused.OutOfMemory) w assigned = Unit {0}
