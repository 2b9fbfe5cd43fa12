-- What holds still, whatever a message comes to: objects and classes fit, and no Message that waits is lost.
use Rattle.std.specs.Prelude.{◌≡◌, ℕ, ◌<◌, Bool, true, false, List, length}
use Rattle.rx_tree.specs.Object.{Object, Contents, Message, Plain, ClassObject, Places, Line, Names}
use Rattle.rx_tree.specs.declared.activity.Outcome.{Outcome}
use Rattle.rx_tree.specs.declared.activity.Outcome.TheVariants.{Waiting, Given, Failed}
use Rattle.rx_heap.specs.Objects.{contents_at}
use Rattle.rx_native.specs.Fitting.{Fits}
use Rattle.rx_sends.specs.declared.reply.Reply.{Reply}
use Rattle.rx_sends.specs.declared.reply.Reply.TheVariants.{Gives, Calls, Starts}
use Rattle.rx_sends.specs.Replies.{Delivery}
use Rattle.rx_sends.specs.Replies as d
use Rattle.rx_sends.specs.Sending.{Sending, Done, Raises, NoMethod}

-- heap and classes fit once sending has come to this
abbrev pub FitsAfter : {Todo : Type 0} → Sending Todo → Type 0
FitsAfter (Done parts) = Fits parts.classes parts.objects
FitsAfter (Raises number parts) = Fits parts.classes parts.objects
FitsAfter (NoMethod parts) = Fits parts.classes parts.objects

-- ---- Messages that wait

-- whether a Message's message has come to nothing yet
abbrev pub is_waiting : Outcome → Bool
is_waiting Waiting = true
is_waiting (Given value) = false
is_waiting (Failed number) = false

-- whether this is held by a Message whose message has come to nothing yet
abbrev pub waits_in : Contents → Bool
waits_in (Message sending) = is_waiting sending.outcome
waits_in Plain = false
waits_in ClassObject = false
waits_in (Places places) = false
waits_in (Line items) = false
waits_in (Names entries) = false

-- whether the object of a number is a Message whose message has come to nothing yet
abbrev pub waits : List Object → ℕ → Bool
waits objects number = waits_in (contents_at objects number)

-- Each Message that waits before waits still.
abbrev pub KeepsWaiting : List Object → List Object → Type 0
KeepsWaiting old new = (number : ℕ) → waits old number ≡ true → waits new number ≡ true

-- A Message that is started waits, and its number is that of no object before.
abbrev pub IsStarted : List Object → List Object → Reply → Type 0
IsStarted old new (Gives value) = Unit {0}
IsStarted old new (Calls call) = Unit {0}
IsStarted old new (Starts message) = (length old < message) × (waits new message ≡ true)

-- A message leaves each Message waiting that waits before, also where it raises an error, and what it starts is a new Message that waits.
abbrev pub DeliveryKeeps : List Object → Delivery → Type 0
DeliveryKeeps old (d.Replies reply new) = KeepsWaiting old new × IsStarted old new reply
DeliveryKeeps old (d.Raises number new) = KeepsWaiting old new
DeliveryKeeps old (d.NoMethod new) = KeepsWaiting old new
