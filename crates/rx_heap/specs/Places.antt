-- How the items of an Array are kept.
use Rattle.std.specs.Prelude.{◌≡◌, ℕ, ◌≤◌, List, length, map, nat_eq, Option, None}
use Rattle.std.specs.List.{range_with_len}
use Rattle.std.specs.Map.{lookup}
use Rattle.rx_tree.specs.declared.value.Value.{Value}
use Rattle.rx_heap.specs.Arrays.{item_count}

-- the item that is kept for a place
abbrev pub item_of : List (ℕ × Value) → ℕ → Option Value
item_of items place = lookup (nat_eq place) items

-- so many places, with the items that are kept for them
abbrev pub places_of : List (ℕ × Value) → ℕ → List (Option Value)
places_of items size = map (item_of items) (range_with_len 0 size)

-- No item is kept for a place behind these.
abbrev pub AreWithin : List (ℕ × Value) → ℕ → Type 0
AreWithin items size = (place : ℕ) → size ≤ place → item_of items place ≡ None

-- Each item that is kept is in one of these places.
abbrev pub IsCounted : List (ℕ × Value) → ℕ → Type 0
IsCounted items size = length items ≡ item_count (places_of items size)
