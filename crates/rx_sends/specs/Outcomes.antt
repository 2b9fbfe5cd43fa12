-- What a native method comes to where a message reaches it.
use Rattle.std.specs.Prelude.{ℕ, List, Err}
use Rattle.std.specs.Option.{option_map_or}
use Rattle.rx_tree.specs.Object.{Object}
use Rattle.rx_tree.specs.declared.value.Value.{Value}
use Rattle.rx_native.specs.declared.method.Method.{Method}
use Rattle.rx_native.specs.Arguments.{Arguments}
use Rattle.rx_native.specs.Methods.{answer_of, method_numbered}
use Rattle.rx_native.specs.Outcomes.{Outcome, incorrect_method_call}
use Rattle.rx_sends.specs.Settings.{Setting}

-- what a native method comes to in its own class
abbrev pub outcome : Setting → List Object → Value → ℕ → Arguments → Outcome
outcome setting objects target id args =
    option_map_or (λ (method : Method). answer_of method setting.facts setting.classes objects target args) (method_numbered id)
    (Err incorrect_method_call)
