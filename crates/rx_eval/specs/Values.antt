-- Variables with their values.
use Rattle.std.specs.Prelude.{◌≡◌, ◌&&◌, Bool, false, if◌then◌else◌, List, [], ◌∷◌, All, Option, None}
use Rattle.std.specs.Str.{bytes_eq}
use Rattle.rx_tree.specs.declared.name.Derived.{Derived}
use Rattle.rx_tree.specs.declared.name.Derived.TheVariants as d
use Rattle.rx_tree.specs.declared.value.Value.{Value}

-- whether two names are one
abbrev pub same_name : Derived → Derived → Bool
same_name (d.Simple a) (d.Simple b) = bytes_eq a b
same_name (d.Stem a) (d.Stem b) = bytes_eq a b
same_name (d.Compound a s) (d.Compound b t) = bytes_eq a b && bytes_eq s t
same_name _ _ = false

-- variables, each with its value if it has one
abbrev pub Values : Type 0
Values = List (Derived × Option Value)

-- the value of a variable, if it has one
abbrev pub read : Values → Derived → Option Value
read [] name = None
read (entry ∷ entries) name = if same_name entry.0 name then entry.1 else read entries name

-- no variable stands there with two values
abbrev pub Agree : Values → Type 0
Agree values = All (λ one. All (λ other. one.0 ≡ other.0 → one.1 ≡ other.1) values) values
