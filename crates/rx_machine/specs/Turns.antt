-- Where a step stands that does something of a clause.
use Rattle.std.specs.Prelude.{ℕ, List, ◌∷◌}
use Rattle.rx_tree.specs.declared.activity.Awaited.{Awaited}
use Rattle.rx_frames.specs.declared.position.CallState.TheVariants.{Awaiting}
use Rattle.rx_frames.specs.Frames.{Frame}
use Rattle.rx_flow.specs.Todo.{Item, Whole, Again}
use Rattle.rx_eval.specs.Places.{Trees}
use Rattle.rx_machine.specs.Todo.{Todo, untouched}
use Rattle.rx_machine.specs.World.{World, with_top}

pub record Turn : Type 0 where
  pub world : World
  -- the number of the activity, and its frame on top
  pub number : ℕ
  pub frame : Frame Todo
  -- the clause, or the loop before a turn, and what comes behind it
  pub item : Item
  pub rest : List Item

-- the line on which a clause or a loop begins
abbrev pub line_of : Item → ℕ
line_of (Whole clause) = clause.line
line_of (Again clause state) = clause.line

abbrev pub line : Turn → ℕ
line t = line_of t.item

-- The clause is done: the frame goes on with what comes behind it.
abbrev pub goes_on : Turn → World
goes_on t = with_top t.world t.number (record t.frame { todo = untouched t.rest })

-- The clause awaits the answer of a call, and this is left of its expressions.
abbrev pub awaits : Turn → Awaited → Trees → World
awaits t how trees = with_top t.world t.number (record t.frame { todo = record (untouched (t.item ∷ t.rest)) { call = Awaiting how; trees = trees } })
