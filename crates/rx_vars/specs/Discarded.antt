-- How much discarded tables hold.
use Rattle.std.specs.Prelude.{ℕ, ◌+◌, List, length, sum_by}

-- each table counts once, and so does each of its entries
abbrev pub held_by : {A : Type 0} → List (List A) → ℕ
held_by tables = sum_by (λ table. length table + 1) tables
