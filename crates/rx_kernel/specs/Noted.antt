-- The variables for which names stand, with their values.
use Rattle.std.specs.Prelude.{◌≡◌, ℕ, List, map, All, Option, None, Some}
use Rattle.rx_tree.specs.declared.name.Derived.{Derived}
use Rattle.rx_tree.specs.declared.value.Value.{Value}
use Rattle.rx_names.specs.Homes.{value, variables_at}
use Rattle.rx_eval.specs.declared.naming.Named.{Named}
use Rattle.rx_eval.specs.declared.naming.Named.TheVariants.{Known, Missing, TooLong}
use Rattle.rx_eval.specs.Values.{Values}
use Rattle.rx_sends.specs.declared.parts.Parts.{Parts}

-- the value of a variable where it lives for an activity's frame on top, if it has one
abbrev pub value_for : Parts → ℕ → Derived → Option Value
value_for parts a = value (variables_at parts.stacks a) parts.pools

-- the variable for which a name stands, where it isn't too long
abbrev pub if_known : Named → Option Derived
if_known (Known name) = Some name
if_known (Missing name) = None
if_known TooLong = None

-- variables, each with its value or none
abbrev pub valued : (Derived → Option Value) → List Derived → Values
valued value names = map (λ name. (name, value name)) names

-- so these are
abbrev pub AreValued : (Derived → Option Value) → Values → Type 0
AreValued value noted = All (λ entry. entry.1 ≡ value entry.0) noted
