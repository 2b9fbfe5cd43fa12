-- The names that expressions read, from left to right, and their derived names.
use Rattle.std.specs.Prelude.{◌≡◌, ℕ, Bool, true, false, if◌then◌else◌, List, [], ◌∷◌, ◌++◌, map, All, Contains, Option, Some, None}
use Rattle.rx_tree.specs.declared.token.Oper.{Oper}
use Rattle.rx_tree.specs.declared.expr.Expr.{Expr}
use Rattle.rx_tree.specs.declared.expr.Expr.TheOpen.{Expr-F, SendPart-F}
use Rattle.rx_tree.specs.declared.expr.Expr.TheFolds.{fold-Expr}
use Rattle.rx_tree.specs.declared.name.Derived.{Derived}
use Rattle.rx_tree.specs.declared.name.Name.{Name}
use Rattle.rx_tree.specs.declared.name.Name.TheVariants as n
use Rattle.rx_tree.specs.declared.name.Part.{Part}
use Rattle.rx_tree.specs.declared.name.Part.TheVariants.{Fixed, Of}
use Rattle.rx_tree.specs.declared.value.Value.{Value}
use Rattle.rx_eval.specs.declared.code.Instr.{Instr}
use Rattle.rx_eval.specs.declared.code.Instr.TheVariants as i
use Rattle.rx_eval.specs.declared.naming.Named.{Named}
use Rattle.rx_eval.specs.declared.naming.Named.TheVariants.{Known}
use Rattle.rx_eval.specs.Places.{Trees, IsPlace, class_name, partial}
use Rattle.rx_eval.specs.Reading.{derive, is_environment}
use Rattle.rx_eval.specs.Values.{Values, same_name}

-- the variables in a tail
abbrev pub tail_names : List Part → List Name
tail_names [] = []
tail_names (Fixed text ∷ parts) = tail_names parts
tail_names (Of name ∷ parts) = n.Simple name ∷ tail_names parts

abbrev pub tail_of : Name → List Name
tail_of (n.Compound stem parts) = tail_names parts
tail_of _ = []

-- a name reads the variables in its tail, and then itself
abbrev pub with_tail : Name → List Name
with_tail name = tail_of name ++ name ∷ []

-- the variable that says in which class a method is sought; an environment symbol is none
abbrev pub class_names : Option (List ℕ) → List Name
class_names None = []
class_names (Some class) = if is_environment class then [] else n.Simple class ∷ []

abbrev pub all_terms : List (Oper × List Name) → List Name
all_terms [] = []
all_terms (term ∷ terms) = term.1 ++ all_terms terms

abbrev pub all_args : List (Option (List Name)) → List Name
all_args [] = []
all_args (None ∷ args) = all_args args
all_args (Some arg ∷ args) = arg ++ all_args args

abbrev pub all_parts : List (List Name) → List Name
all_parts [] = []
all_parts (part ∷ parts) = part ++ all_parts parts

abbrev pub names_level : Expr-F (List Name) (List Name) → List Name
names_level (Expr-F.Name name) = with_tail name
names_level (Expr-F.Prefix opers inner) = inner
names_level (Expr-F.Chain first terms) = first ++ all_terms terms
names_level (Expr-F.Group inner) = inner
names_level (Expr-F.Function name is_string args) = all_args args
names_level (Expr-F.Sends receiver parts) = receiver ++ all_parts parts
names_level _ = []

-- the class of a message is read behind its arguments
abbrev pub names_part : SendPart-F (List Name) (List Name) → List Name
names_part part = all_args part.args ++ class_names part.above

-- the names that an expression reads
unfoldable pub names_of : Expr → List Name
names_of = fold-Expr (List Name) (List Name) names_level names_part

-- the names that several expressions read
abbrev pub names_of_all : Trees → List Name
names_of_all [] = []
names_of_all (tree ∷ trees) = names_of tree.0 ++ names_of_all trees

-- ---- variables

-- The derived names of names, where variables have these values. A variable in a tail that has no value stands for its own
-- name. A derived name that would be too long is left out.
abbrev pub known : Named → List Derived → List Derived
known (Known name) names = name ∷ names
known _ names = names

abbrev pub derived_names : (Derived → Option Value) → List Name → List Derived
derived_names value [] = []
derived_names value (name ∷ names) = known (derive false value name) (derived_names value names)

-- each name once, at its first place, but for those that stand before
abbrev pub stands : List Derived → Derived → Bool
stands [] name = false
stands (other ∷ others) name = if same_name other name then true else stands others name

abbrev pub first_of_each : List Derived → List Derived → List Derived
first_of_each before [] = []
first_of_each before (name ∷ names) =
    if stands before name then first_of_each before names else name ∷ first_of_each (name ∷ before) names

-- The variables that expressions read, where variables have these values: each once, in the order in which they are met, with
-- its value or none.
abbrev pub reads : (Derived → Option Value) → Trees → Values
reads value trees = map (λ name. (name, value name)) (first_of_each [] (derived_names value (names_of_all trees)))

-- ---- code

-- the names that an instruction reads
abbrev pub names_read : Instr → List Name
names_read (i.Name name) = with_tail name
names_read (i.Send send) = class_names (class_name send.class)
names_read _ = []

abbrev pub names_in : List Instr → List Name
names_in [] = []
names_in (instr ∷ code) = names_read instr ++ names_in code

-- whether each name that code reads is among some names
abbrev pub Lists : List Name → List Instr → Type 0
Lists names code = All (Contains names) (names_in code)

-- the names that the trees of a place read, whatever values stand there
abbrev pub AreRead : List Instr → ℕ → List Name → Type 0
AreRead code place names = (values : List Value) → IsPlace code place values → names ≡ names_of_all (partial code place values)
