-- What decides about a message beside the objects.
use Rattle.std.specs.Prelude.{List}
use Rattle.rx_tree.specs.declared.class.ClassDef.{ClassDef}
use Rattle.rx_builtin.specs.declared.facts.Facts.{Facts}
use Rattle.rx_sends.specs.declared.sender.Sender.{Sender}

-- The classes, what the sender tells, and what functions read of it: a native method reads DIGITS alone.
pub record Setting : Type 0 where
  pub facts : Facts
  pub classes : List ClassDef
  pub sender : Sender

abbrev pub setting : Facts → List ClassDef → Sender → Setting
setting facts classes sender = record { facts = facts; classes = classes; sender = sender }
