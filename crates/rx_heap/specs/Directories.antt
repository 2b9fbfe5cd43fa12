-- Directories: names with their values, each name once, in the order in which the names were put. A value is looked up and put
-- as in any table of names.
use Rattle.std.specs.Prelude.{ℕ, List, [], ◌∷◌, if◌then◌else◌}
use Rattle.std.specs.Str.{bytes_eq}
use Rattle.rx_tree.specs.declared.value.Value.{Value}

-- the entries once a name is taken away: those behind it close up
abbrev pub without_name : List (List ℕ × Value) → List ℕ → List (List ℕ × Value)
without_name [] name = []
without_name (entry ∷ entries) name = if bytes_eq name entry.0 then entries else entry ∷ without_name entries name

-- the names, in order
abbrev pub names_of : List (List ℕ × Value) → List (List ℕ)
names_of [] = []
names_of (entry ∷ entries) = entry.0 ∷ names_of entries
