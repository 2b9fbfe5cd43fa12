-- What stands at one place of code.
use Rattle.std.specs.Prelude.{◌≡◌, ℕ, ◌<◌, Bool, false, List, Option, Some, None}
use Rattle.rx_tree.specs.declared.name.Name.{Name}
use Rattle.rx_clause_tree.specs.declared.clause.Clause.{Clause}
use Rattle.rx_frames.specs.declared.position.Loop.{Loop}
use Rattle.rx_flow.specs.declared.code.Op.{Op}
use Rattle.rx_flow.specs.declared.code.Op.TheVariants as op
use Rattle.rx_flow.specs.declared.finding.Look.{Look}
use Rattle.rx_flow.specs.declared.finding.Look.TheVariants as look
use Rattle.rx_flow.specs.declared.finding.TurnOp.{TurnOp}
use Rattle.rx_flow.specs.Rules.{rule}
use Rattle.rx_flow.specs.Todo.{is_label, is_meant_loop, past_labels}
use Rattle.rx_flow.specs.Places.{todo_at}
use Rattle.rx_flow.specs.Finds.{IsEnd, IsNext}

abbrev pub jump_of : Option Op → Option ℕ
jump_of (Some (op.Jump to)) = Some to
jump_of _ = None

abbrev pub turn_of : Option Op → Option TurnOp
turn_of (Some (op.Turn number end)) = Some (record { number = number; end = end })
turn_of _ = None

abbrev pub is_label_entry : Option Clause → Bool
is_label_entry None = false
is_label_entry (Some clause) = is_label (rule clause)

abbrev pub is_meant_entry : Option Name → Option Clause → Bool
is_meant_entry wanted None = false
is_meant_entry wanted (Some clause) = is_meant_loop wanted (rule clause)

abbrev pub Sees : List Clause → ℕ → Look → Type 0
Sees body place (look.Onward next) =
    (place < next) × ((loops : List Loop) → past_labels (todo_at body place loops) ≡ past_labels (todo_at body next loops))
Sees body place (look.Stands found) = IsNext body place found
Sees body place look.End = IsEnd body place
