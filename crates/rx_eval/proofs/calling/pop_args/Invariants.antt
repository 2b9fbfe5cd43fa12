use Rattle.std.proofs.Common.{◌≡◌, drop, [], List, Option}
use Rattle.rx_tree.specs.declared.value.Value.{Value}
use Rattle.rx_eval.specs.Machine.{Moved, popping}
use Rattle.rx_eval.proofs.calling.pop_args.Given as goal

abbrev pub invariant-loop-given : goal.invariant-loop-given
invariant-loop-given l = (go : List (Option Value) → List Value → Moved) → popping (drop l.given-index l.shape) l.stack l.args go ≡ popping l.shape l.initial.stack [] go
