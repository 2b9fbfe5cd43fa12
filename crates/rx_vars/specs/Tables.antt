-- Tables: lists of names with what stands under them, each name once.
use Rattle.std.specs.Prelude.{ℕ, Vec, List, [], ◌∷◌, length, take, map, slice_index_or, is_some, Option, Some, None, if◌then◌else◌}
use Rattle.std.specs.declared.alloc.Global.{Global}
use Rattle.std.specs.Str.{bytes_eq}

-- what stands under a name, if something does
abbrev pub look_up : {A : Type 0} → List (List ℕ × A) → List ℕ → Option A
look_up [] name = None
look_up (entry ∷ entries) name = if bytes_eq name entry.0 then Some entry.1 else look_up entries name

-- the table once this stands under the name: at its place, or as a new entry at the end
abbrev pub with_entry : {A : Type 0} → List (List ℕ × A) → List ℕ → A → List (List ℕ × A)
with_entry [] name value = (name, value) ∷ []
with_entry (entry ∷ entries) name value =
    if bytes_eq name entry.0 then (entry.0, value) ∷ entries else entry ∷ with_entry entries name value

-- the last of some entries, in front of the others
abbrev pub last_in_front : {A : Type 0} → List A → List A
last_in_front [] = []
last_in_front (entry ∷ entries) = slice_index_or (entry ∷ entries) (length entries) entry ∷ take (length entries) (entry ∷ entries)

-- the table once nothing stands under the name: the last entry takes the place of its entry
abbrev pub without_entry : {A : Type 0} → List (List ℕ × A) → List ℕ → List (List ℕ × A)
without_entry [] name = []
without_entry (entry ∷ entries) name =
    if bytes_eq name entry.0 then last_in_front entries else entry ∷ without_entry entries name

-- the table once this stands under the name, or nothing
abbrev pub with_change : {A : Type 0} → List (List ℕ × A) → List ℕ → Option A → List (List ℕ × A)
with_change entries name None = without_entry entries name
with_change entries name (Some value) = with_entry entries name value

-- the table once something stands under the name; what stands there already stays
abbrev pub with_new : {A : Type 0} → List (List ℕ × A) → List ℕ → A → List (List ℕ × A)
with_new entries name value = if is_some (look_up entries name) then entries else with_entry entries name value

abbrev pub named : {A : Type 0} → Vec ℕ Global × A → List ℕ × A
named entry = (entry.0.items, entry.1)

-- the table that some entries stand for
abbrev pub table_of : {A : Type 0} → List (Vec ℕ Global × A) → List (List ℕ × A)
table_of entries = map named entries
