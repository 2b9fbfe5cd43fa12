-- Arrays: their places, some of which are empty. Those in the list are counted from 0, an Array's indexes from 1.
use Rattle.std.specs.Prelude.{ℕ, ◌+◌, ◌-◌, List, ◌++◌, length, count_by, is_some, replicate, slice_index_or, slice_set, Option, None, Some}
use Rattle.rx_tree.specs.declared.value.Value.{Value}

-- the most places, and so the greatest index
abbrev pub most_places : ℕ
most_places = 1048576

-- the item in a place, if there is one
abbrev pub item_in : List (Option Value) → ℕ → Option Value
item_in places place = slice_index_or places place None

-- how many places have an item
abbrev pub item_count : List (Option Value) → ℕ
item_count places = count_by is_some places

-- at least so many places; new ones are empty
abbrev pub with_size : List (Option Value) → ℕ → List (Option Value)
with_size places size = places ++ replicate (size - length places) None

-- the places once this item is in one of them: there are as many then as it takes
abbrev pub with_item : List (Option Value) → ℕ → Value → List (Option Value)
with_item places place item = slice_set (with_size places (place + 1)) place (Some item)

-- the places once one of them is empty
abbrev pub without_item : List (Option Value) → ℕ → List (Option Value)
without_item places place = slice_set places place None
