-- What a map of pools stands for.
use Rattle.std.specs.Prelude.{ℕ, Bool, List, map}
use Rattle.rx_pools.specs.declared.pools.Pool.{Pool as Kept}
use Rattle.rx_pools.specs.Pools.{Pool}

-- the most pools that are kept
abbrev pub most_pools : ℕ
most_pools = 4294967294

abbrev pub pool_of : (ℕ × ℕ × Bool) × Kept → Pool
pool_of entry = record {
  object = entry.0.0;
  scope = record { class = entry.0.1; class_side = entry.0.2 };
  rows = entry.1.rows;
  cells = entry.1.cells;
}

abbrev pub pools_of : List ((ℕ × ℕ × Bool) × Kept) → List Pool
pools_of entries = map pool_of entries
