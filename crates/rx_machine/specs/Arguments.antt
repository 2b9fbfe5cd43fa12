-- USE ARG.
use Rattle.std.specs.Prelude.{ℕ, nat_le, ◌&&◌, Bool, true, false, is_some, if◌then◌else◌, List, [], ◌∷◌, ◌++◌, drop, length, Option, None, Some}
use Rattle.rx_tree.specs.declared.activity.FrameKind.{FrameKind}
use Rattle.rx_tree.specs.declared.activity.FrameKind.TheVariants as kind
use Rattle.rx_tree.specs.declared.name.Name.{Name}
use Rattle.rx_tree.specs.declared.expr.Expr.{Expr}
use Rattle.rx_tree.specs.declared.value.Value.{Value}
use Rattle.rx_clause_tree.specs.declared.instruction.Parameter.{Parameter}
use Rattle.rx_native.specs.Outcomes.{incorrect_method_call}
use Rattle.rx_eval.specs.Places.{Trees}
use Rattle.rx_machine.specs.Refusals.{incorrect_call}
use Rattle.rx_machine.specs.Values.{first_value, given_tree}
use Rattle.rx_machine.specs.World.{World}
use Rattle.rx_machine.specs.Turns.{Turn}
use Rattle.rx_machine.specs.Assigning.{assigns}

-- the first of some arguments, if it is given
abbrev pub argument : List (Option Value) → Option Value
argument [] = None
argument (arg ∷ args) = arg

-- ---- defaults

abbrev pub default_if : Option Value → Option Expr → Trees
default_if None default = given_tree false default
default_if (Some value) default = []

-- The defaults that are needed: those of parameters without an argument.
abbrev pub defaults : List Parameter → List (Option Value) → Trees
defaults [] args = []
defaults (parameter ∷ parameters) args = default_if (argument args) parameter.default ++ defaults parameters (drop 1 args)

-- ---- STRICT

-- each parameter has an argument, or a default
abbrev pub are_enough : List Parameter → List (Option Value) → Bool
are_enough [] args = true
are_enough (parameter ∷ parameters) args =
    if is_some (argument args) then are_enough parameters (drop 1 args)
    else if is_some parameter.default then are_enough parameters (drop 1 args)
    else false

abbrev pub number_in : FrameKind → ℕ
number_in kind.Method = incorrect_method_call
number_in kind.Main = incorrect_call
number_in kind.Routine = incorrect_call
number_in kind.Internal = incorrect_call

-- STRICT wants an argument for each parameter without a default, and none more: it raises 93 in a method, and else 40.
abbrev pub refuses : Bool → FrameKind → List Parameter → List (Option Value) → Option ℕ
refuses false in_kind parameters args = None
refuses true in_kind parameters args =
    if nat_le (length args) (length parameters) && are_enough parameters args then None else Some (number_in in_kind)

-- ---- what the variables get

abbrev pub row : Name → Option Value → Option Expr → List Value → (Name × Option Value)
row name (Some value) default values = (name, Some value)
row name None None values = (name, None)
row name None (Some expr) values = (name, first_value values)

-- the values of the defaults that are left behind a parameter
abbrev pub values_behind : Option Value → Option Expr → List Value → List Value
values_behind (Some value) default values = values
values_behind None None values = values
values_behind None (Some expr) values = drop 1 values

-- Each variable has its argument; or its default's value; or none.
abbrev pub rows : List Parameter → List (Option Value) → List Value → List (Name × Option Value)
rows [] args values = []
rows (parameter ∷ parameters) args values =
    row parameter.name (argument args) parameter.default values
    ∷ rows parameters (drop 1 args) (values_behind (argument args) parameter.default values)

-- `USE ARG v [= e], ..`
abbrev pub uses : Turn → List Parameter → List Value → World
uses t parameters values = assigns t (rows parameters t.frame.arguments values)
