-- Messages that the frames of activities send.
use Rattle.std.specs.Prelude.{ℕ, List, [], Option, None, Some}
use Rattle.rx_builtin.specs.declared.facts.Facts.{Facts}
use Rattle.rx_tree.specs.Object.{Contents, Plain, ClassObject, Places, Line, Names, Message}
use Rattle.rx_tree.specs.declared.value.Value.{Value}
use Rattle.rx_heap.specs.Objects.{contents_at}
use Rattle.rx_frames.specs.Activities.{activity_at, first_message}
use Rattle.rx_eval.specs.declared.call.Sent.{Sent as Called}
use Rattle.rx_eval.specs.declared.call.Sent.TheVariants as call
use Rattle.rx_sends.specs.declared.parts.Sent.{Sent}
use Rattle.rx_sends.specs.Refusals.{method_not_found}
use Rattle.rx_sends.specs.Senders.{sender_of}
use Rattle.rx_sends.specs.Sending.{Sending, Done, Raises, NoMethod, sent}
use Rattle.rx_machine.specs.Todo.{Todo, by_clauses}
use Rattle.rx_machine.specs.World.{World, parts_of, with_parts}
use Rattle.rx_machine.specs.Raising.{raised}

abbrev pub message : Value → List ℕ → Option ℕ → List (Option Value) → Sent
message target name above args = record { target = target; name = name; above = above; args = args }

-- what a native method reads of its sender: DIGITS alone
abbrev pub facts_of : World → ℕ → Facts
facts_of w a = record { digits = (sender_of w.activities a).digits; arguments = []; queued = 0; condition = None; lines = [] }

-- No frame of the language that runs traps NOMETHOD.
abbrev pub sending_of : World → ℕ → ℕ → Sending Todo → World
sending_of w a line (Done parts) = with_parts w parts
sending_of w a line (Raises number parts) = raised (with_parts w parts) a number line
sending_of w a line (NoMethod parts) = raised (with_parts w parts) a method_not_found line

-- The activity sends a message from a clause at this line.
unfoldable pub sends : World → ℕ → ℕ → Sent → World
sends w a line one = sending_of w a line (sent (by_clauses w.program) (facts_of w a) (parts_of w) a one)

-- A clause at this line calls. No label and no routine is called in the language that runs.
abbrev pub calls : World → ℕ → ℕ → Called → World
calls w a line (call.Message target name above args) = sends w a line (message target name above args)
calls w a line (call.Label name args) = w
calls w a line (call.Routine name args) = w

abbrev pub first_sent : World → ℕ → Contents → World
first_sent w a (Message sending) = sends w a 0 (message sending.target sending.name None sending.args)
first_sent w a Plain = w
first_sent w a ClassObject = w
first_sent w a (Places places) = w
first_sent w a (Line items) = w
first_sent w a (Names entries) = w

abbrev pub first_of : World → ℕ → Option ℕ → World
first_of w a None = w
first_of w a (Some number) = first_sent w a (contents_at w.objects number)

-- An activity that was begun for a Message sends its message.
abbrev pub sends_first : World → ℕ → World
sends_first w a = first_of w a (first_message (activity_at w.activities a))
