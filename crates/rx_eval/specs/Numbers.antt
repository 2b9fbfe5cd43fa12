-- Names by number: the number of a name is its place in a table.
use Rattle.std.specs.Prelude.{◌≡◌, ℕ, List, ◌++◌, slice_get, Some}
use Rattle.std.specs.List.{AllZip}
use Rattle.rx_tree.specs.declared.name.Name.{Name}
use Rattle.rx_eval.specs.declared.code.Instr.{Instr}
use Rattle.rx_eval.specs.Names.{names_read}

abbrev pub IsNumber : List Name → Name → ℕ → Type 0
IsNumber table name number = slice_get table number ≡ Some name

abbrev pub AreNumbers : List Name → List Name → List ℕ → Type 0
AreNumbers table names numbers = AllZip (IsNumber table) names numbers

-- each instruction has the numbers of the names that it reads
abbrev pub AreNumbered : List Name → List Instr → List (List ℕ) → Type 0
AreNumbered table code numbers = AllZip (λ instr own. AreNumbers table (names_read instr) own) code numbers

-- the names of a table keep their numbers
abbrev pub Keeps : List Name → List Name → Type 0
Keeps old new = (name : Name) (number : ℕ) → IsNumber old name number → IsNumber new name number

-- where numbers stand for some names, the new ones stand for these and more
abbrev pub NumbersMore : List Name → List Name → List Name → List ℕ → List ℕ → Type 0
NumbersMore old new more numbers all = (names : List Name) → AreNumbers old names numbers → AreNumbers new (names ++ more) all
