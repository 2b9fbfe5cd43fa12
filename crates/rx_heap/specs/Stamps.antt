-- How the names of a Directory are kept: each name has a stamp, and each entry stands at the stamp of its name.
use Rattle.std.specs.Prelude.{◌≡◌, ℕ, ◌<◌, ◌≤◌, false, List, length, slice_get, Some}
use Rattle.std.specs.Str.{bytes_eq}
use Rattle.rx_tree.specs.declared.value.Value.{Value}
use Rattle.rx_vars.specs.Tables.{look_up}
use Rattle.rx_heap.specs.Counts.{most_items}

-- an entry at its stamp
abbrev pub Entry : Type 0
Entry = ℕ × (List ℕ × Value)

-- These stamps are those of the names of some entries, and below the next one.
pub record AreStamped (stamps : List (List ℕ × ℕ)) (entries : List Entry) (next : ℕ) : Type 0 where
  -- each entry stands at the stamp of its name
  pub named : (place : ℕ) (entry : Entry) → slice_get entries place ≡ Some entry → look_up stamps entry.1.0 ≡ Some entry.0
  -- two names have two stamps
  pub apart : (first second : List ℕ) (stamp : ℕ) → look_up stamps first ≡ Some stamp → look_up stamps second ≡ Some stamp → first ≡ second
  pub below : (name : List ℕ) (stamp : ℕ) → look_up stamps name ≡ Some stamp → stamp < next
  pub few : length entries ≤ most_items

-- The stamps of other names than this one stay.
abbrev pub Stay : List ℕ → List (List ℕ × ℕ) → List (List ℕ × ℕ) → Type 0
Stay name old new = (other : List ℕ) → bytes_eq name other ≡ false → look_up new other ≡ look_up old other
