-- What PARSE cuts, and by what.
use Rattle.std.specs.Prelude.{◌≡◌, ℕ, List, [], ◌∷◌, ◌++◌, drop, map, flat_map, Option, option_map, Result, Ok, Err}
use Rattle.rx_tree.specs.declared.name.Name.{Name}
use Rattle.rx_tree.specs.declared.value.Value.{Value}
use Rattle.rx_vars.specs.Variables.{Variables}
use Rattle.rx_pools.specs.Pools.{Pools}
use Rattle.rx_template.specs.declared.template.TPart.{TPart}
use Rattle.rx_template.specs.Pieces.{pieces}
use Rattle.rx_clause_tree.specs.declared.template.Template.{Template}
use Rattle.rx_native.specs.Outcomes.{on}
use Rattle.rx_machine.specs.Templates.{bound_all, bound_from, first_text, row, targets}
use Rattle.rx_machine.specs.World.{World}
use Rattle.rx_kernel.specs.declared.binding.BindRefused.{BindRefused}
use Rattle.rx_kernel.specs.declared.binding.BindRefused.TheVariants as refused
use Rattle.rx_kernel.specs.declared.binding.Bound.{Bound}

-- ---- values in templates

-- What a call has come to: what was read, or the error that this raises, or else memory is wanting.
abbrev pub IsRead : {A : Type 0} → Result A BindRefused → Result A ℕ → Type 0
IsRead (Ok one) read = read ≡ Ok one
IsRead (Err (refused.Raised number)) read = read ≡ Err number
IsRead (Err refused.OutOfMemory) read = Unit {0}

-- what was read stands behind this
abbrev pub behind : {A : Type 0} → List A → Result (List A) ℕ → Result (List A) ℕ
behind first read = on read (λ others. Ok (first ++ others))

-- a template with its parts, once the values in it are known
abbrev pub bound_of : Template × List TPart → Bound
bound_of one = record { targets = targets one.0.parts; template = record { parts = one.1 } }

abbrev pub bound_one : List Variables → Pools → Template → Result Bound ℕ
bound_one frames pools template = on (bound_from frames pools 0 template.parts) (λ parts. Ok (bound_of (template, parts)))

-- all templates, or the first error in them
abbrev pub bounds_of : List Variables → Pools → List Template → Result (List Bound) ℕ
bounds_of frames pools templates = on (bound_all frames pools templates) (λ all. Ok (map bound_of all))

-- ---- pieces

-- what the targets of a template get of a text
abbrev pub rows_of : Bound → List ℕ → List (Name × Option Value)
rows_of bound text = flat_map (row bound.targets) (pieces bound.template.parts text)

abbrev pub all_rows_of : List Bound → List (List ℕ) → List (Name × Option Value)
all_rows_of [] texts = []
all_rows_of (bound ∷ bounds) texts = rows_of bound (first_text texts) ++ all_rows_of bounds (drop 1 texts)

-- ---- texts

-- what was taken, with the world afterwards
abbrev pub taken_with : {A : Type 0} → World → Option A → Option (A × World)
taken_with w taken = option_map (λ one. (one, w)) taken
