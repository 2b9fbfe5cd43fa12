-- Places of a text, which begin at 1, and the first or last place where something holds.
use Rattle.std.specs.Prelude.{ℕ, ◌+◌, ◌-◌, Bool, List, length, take, drop, reverse, find, unwrap_or}
use Rattle.std.specs.List.{range_with_len}
use Rattle.std.specs.Str.{bytes_eq}

-- the first place from one to another where a test holds, or 0
abbrev pub first_place : (ℕ → Bool) → ℕ → ℕ → ℕ
first_place test from last = unwrap_or (find test (range_with_len from (last + 1 - from))) 0

-- the last place from 1 to another where a test holds, or 0
abbrev pub last_place : (ℕ → Bool) → ℕ → ℕ
last_place test last = unwrap_or (find test (reverse (range_with_len 1 last))) 0

-- whether a text begins with a needle
abbrev pub begins_with : List ℕ → List ℕ → Bool
begins_with text needle = bytes_eq (take (length needle) text) needle

-- whether a needle stands in a text at a place
abbrev pub stands_at : List ℕ → List ℕ → ℕ → Bool
stands_at needle text place = begins_with (drop (place - 1) text) needle
