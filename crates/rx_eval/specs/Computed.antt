-- Whether an answer of `compute` is what all comes to.
use Rattle.std.specs.Prelude.{◌≡◌, List, reverse}
use Rattle.rx_tree.specs.declared.value.Value.{Value}
use Rattle.rx_eval.specs.declared.code.Instr.{Instr}
use Rattle.rx_eval.specs.declared.computing.Computed.{Computed}
use Rattle.rx_eval.specs.declared.computing.Computed.TheVariants as computed
use Rattle.rx_eval.specs.Evaluation.{AllFound, AllDone, AllRaise, AllNoValue, AllCall}
use Rattle.rx_eval.specs.Machine.{is_kept}
use Rattle.rx_eval.specs.Places.{rest_at, IsPlace, with_hole, with_answer}

abbrev pub IsComputed : List Instr → AllFound → Computed → Type 0
IsComputed code all (computed.Done values) = all ≡ AllDone values
IsComputed code all (computed.Raise number) = all ≡ AllRaise number
IsComputed code all (computed.NoValue name) = all ≡ AllNoValue name
IsComputed code all (computed.Call sent place values) =
    (all ≡ AllCall sent (rest_at code place (with_hole (is_kept sent.awaited) (reverse values))))
    × ((answer : Value) → IsPlace code place (with_answer (is_kept sent.awaited) answer (reverse values)))
IsComputed code all computed.NoMemory = Unit {0}
