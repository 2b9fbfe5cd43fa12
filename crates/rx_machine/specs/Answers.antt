-- What a clause goes on with once the answer of its call has come.
use Rattle.std.specs.Prelude.{ℕ, if◌then◌else◌, Option, None, Some}
use Rattle.rx_tree.specs.declared.activity.Awaited.{Awaited}
use Rattle.rx_tree.specs.declared.activity.Awaited.TheVariants.{Dropped, Anything, Message, Function, String}
use Rattle.rx_tree.specs.declared.value.Value.{Value}
use Rattle.rx_tree.specs.declared.value.Value.TheVariants.{Str, Ref}
use Rattle.rx_clause_tree.specs.declared.simple.Simple.{Simple}
use Rattle.rx_clause_tree.specs.declared.simple.Simple.TheVariants as simple
use Rattle.rx_native.specs.Outcomes.{incorrect_method_call}
use Rattle.rx_eval.specs.Filling.{filled_all}
use Rattle.rx_eval.specs.Pauses.{is_bare}
use Rattle.rx_eval.specs.Places.{Trees}
use Rattle.rx_machine.specs.Refusals.{no_data_returned, no_value_returned}

-- ---- how it is awaited

-- A message clause does without the value of its last message.
abbrev pub awaited_by : Simple → Awaited → Trees → Awaited
awaited_by (simple.Message expr) how trees = if is_bare trees then Anything else how
awaited_by _ how trees = how

-- ---- what it comes to

pub data Resumed : Type 0 where
  -- these expressions are left
  Left : Trees → Resumed
  -- there is no value, and none is needed
  Without : Resumed
  Raises : ℕ → Resumed

abbrev pub or_raises : ℕ → Option Value → Trees → Resumed
or_raises number None trees = Raises number
or_raises number (Some value) trees = Left (filled_all value trees)

abbrev pub or_without : Option Value → Trees → Resumed
or_without None trees = Without
or_without (Some value) trees = Left (filled_all value trees)

abbrev pub if_string : Option Value → Trees → Resumed
if_string (Some (Str text)) trees = Left (filled_all (Str text) trees)
if_string (Some (Ref object)) trees = Raises incorrect_method_call
if_string None trees = Raises incorrect_method_call

-- The answer takes the place of the hole, or is let go. 91 is raised where a message gave no value, 44 where a function gave none, and 93
-- where STRING gave no string.
abbrev pub resumed : Awaited → Option Value → Trees → Resumed
resumed Dropped answer trees = Left trees
resumed Anything answer trees = or_without answer trees
resumed Message answer trees = or_raises no_value_returned answer trees
resumed Function answer trees = or_raises no_data_returned answer trees
resumed String answer trees = if_string answer trees
