use Rattle.std.proofs.Common.{◌≡◌, List, ◌-◌}
use Rattle.rx_frames.specs.declared.position.Loop.{Loop}
use Rattle.rx_flow.specs.Todo.{past_labels}
use Rattle.rx_flow.specs.Places.{todo_at}
use Rattle.rx_flow.proofs.finding.find.Given as goal

abbrev pub invariant-loop-next : goal.invariant-loop-next
invariant-loop-next l = (loops : List Loop) → past_labels (todo_at l.body.clauses l.initial.at loops) ≡ past_labels (todo_at l.body.clauses l.at loops)

abbrev pub decreases-loop-next : goal.decreases-loop-next
decreases-loop-next l = 4294967296 - l.at
