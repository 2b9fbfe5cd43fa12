use Rattle.std.proofs.Common.{ℕ, ◌<◌, Option, slice_index_or}
use Rattle.rx_tree.specs.declared.value.Value.{Value}
use Rattle.rx_native.specs.Fitting.{IsThereIfGiven}
use Rattle.rx_send_cases.proofs.fitting.are_there.Given as goal

abbrev pub invariant-loop-argument : goal.invariant-loop-argument
invariant-loop-argument l =
    (k : ℕ) (d : Option Value) → k < l.argument-index → IsThereIfGiven l.heap (slice_index_or l.args k d)
