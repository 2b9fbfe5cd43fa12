-- The values of a clause's expressions.
use Rattle.std.specs.Prelude.{ℕ, Bool, List, [], ◌∷◌, Option, None, Some}
use Rattle.rx_tree.specs.declared.expr.Expr.{Expr}
use Rattle.rx_tree.specs.declared.value.Value.{Value}
use Rattle.rx_eval.specs.Calling.{text_of as bytes_of}
use Rattle.rx_eval.specs.Places.{Trees}

-- an expression where there is one, with whether a string is wanted of it
abbrev pub given_tree : Bool → Option Expr → Trees
given_tree string None = []
given_tree string (Some expr) = (expr, string) ∷ []

-- the first value, if there is one
abbrev pub first_value : List Value → Option Value
first_value [] = None
first_value (value ∷ values) = Some value

-- the first string, or the empty one where there is none
abbrev pub text_of : List Value → List ℕ
text_of [] = []
text_of (value ∷ values) = bytes_of value
