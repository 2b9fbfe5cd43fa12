-- The names of a Directory as strings.
use Rattle.std.proofs.Common.{◌≡◌, ℕ, List, [], ◌∷◌, refl, ap}
use Rattle.std.specs.Prelude.{map}
use Rattle.rx_tree.specs.declared.value.Value.{Value}
use Rattle.rx_tree.specs.declared.value.Value.TheVariants.{Str}
use Rattle.rx_heap.specs.Directories.{names_of}
use Rattle.rx_native.specs.DirectoryMethods.{name_value}

-- texts as values
abbrev pub texts : List (List ℕ) → List Value
texts names = map (λ (name : List ℕ). Str name) names

pub names-texts : (entries : List (List ℕ × Value)) → texts (names_of entries) ≡ map name_value entries
names-texts [] = refl
names-texts (entry ∷ entries) = ap (λ (vs : List Value). Str entry.0 ∷ vs) (names-texts entries)
