-- How many items a Queue or a Directory may have.
use Rattle.std.specs.Prelude.{ℕ}

-- the most that a number of 32 bits counts
abbrev pub most_items : ℕ
most_items = 4294967295
