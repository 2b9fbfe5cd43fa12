-- What `execute` answers, beside the values that it leaves.
use Rattle.std.specs.Prelude.{ℕ, List, Option, Some, None}
use Rattle.rx_tree.specs.declared.value.Value.{Value}
use Rattle.rx_eval.specs.declared.sending.Scope.{Scope}
use Rattle.rx_eval.specs.declared.sending.Scope.TheVariants as scope
use Rattle.rx_eval.specs.declared.step.Step.{Step}
use Rattle.rx_eval.specs.declared.step.Step.TheVariants as step
use Rattle.rx_eval.specs.Machine.{Moved, Next, Raises, Lacks, Calls, Stuck}

abbrev pub moved : Step → List Value → Moved
moved step.Next values = Next values
moved (step.Raises number) values = Raises number
moved (step.Lacks name) values = Lacks name
moved (step.Calls sent again) values = Calls sent again values
moved step.Stuck values = Stuck

abbrev pub popped : Option (List (Option Value)) → List Value → (List (Option Value) → List Value → Moved) → Moved
popped None values go = Stuck
popped (Some args) values go = go args values

abbrev pub scoped : Scope → (Option ℕ → Moved) → Moved
scoped (scope.At class) go = go class
scoped (scope.Raises number) go = Raises number
scoped (scope.Lacks name) go = Lacks name
