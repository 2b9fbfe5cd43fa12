-- The pools of objects' variables, and the counts of their changes.
use Rattle.std.specs.Prelude.{◌≡◌, ℕ, ◌+◌, ◌^◌, ◌<◌, ◌==◌, ◌&&◌, Bool, true, false, not, List, [], ◌∷◌, ◌++◌, length, position, slice_get, slice_set, slice_index, Option, None, Some}
use Rattle.rx_tree.specs.declared.value.Value.{Value}
use Rattle.rx_tree.specs.declared.name.Derived.{Derived}
use Rattle.rx_tree.specs.declared.name.Derived.TheVariants.{Simple, Stem, Compound}
use Rattle.rx_tree.specs.declared.class.Scope.{Scope}
use Rattle.rx_vars.specs.Tables.{look_up, with_entry}
use Rattle.rx_vars.specs.Names.{Names, changed, no_names}

-- The variables of an object that the methods of one scope expose. Its cells are the names that guards may watch, each with
-- its number over all pools.
pub record Pool : Type 0 where
  pub object : ℕ
  pub scope : Scope
  pub rows : Names Value
  pub cells : List (List ℕ × ℕ)

-- Pools have the numbers of their places, from 0. How often a cell was changed stands at the cell's number.
pub record Pools : Type 0 where
  pub pools : List Pool
  pub counts : List ℕ

abbrev pub no_pools : Pools
no_pools = record { pools = []; counts = [] }

-- ---- pools by object and scope

abbrev pub same_side : Bool → Bool → Bool
same_side true side = side
same_side false side = not side

abbrev pub is_pool_of : ℕ → Scope → Pool → Bool
is_pool_of object scope pool =
    (object == pool.object) && ((scope.class == pool.scope.class) && same_side scope.class_side pool.scope.class_side)

-- the number of the pool of an object and a scope, once it was made
abbrev pub pool_number : Pools → ℕ → Scope → Option ℕ
pool_number all object scope = position (is_pool_of object scope) all.pools

abbrev pub with_pool_at : Pools → ℕ → Scope → Option ℕ → Pools
with_pool_at all object scope (Some number) = all
with_pool_at all object scope None =
    record all { pools = all.pools ++ record { object = object; scope = scope; rows = no_names; cells = [] } ∷ [] }

-- the pools, with one of this object and scope: it is made where there is none yet
abbrev pub with_pool : Pools → ℕ → Scope → Pools
with_pool all object scope = with_pool_at all object scope (pool_number all object scope)

-- ---- one pool

abbrev pub rows_of : Option Pool → Names Value
rows_of None = no_names
rows_of (Some pool) = pool.rows

abbrev pub cells_of : Option Pool → List (List ℕ × ℕ)
cells_of None = []
cells_of (Some pool) = pool.cells

-- whose pool it is
abbrev pub owner_of : Pool → ℕ × Scope
owner_of pool = (pool.object, pool.scope)

-- the variables of a pool, by its number
abbrev pub rows_in : Pools → ℕ → Names Value
rows_in all number = rows_of (slice_get all.pools number)

abbrev pub with_change_of : List Pool → ℕ → (Pool → Pool) → Option Pool → List Pool
with_change_of pools number change None = pools
with_change_of pools number change (Some pool) = slice_set pools number (change pool)

-- the pools once one of them is changed so
abbrev pub with_change_at : List Pool → ℕ → (Pool → Pool) → List Pool
with_change_at pools number change = with_change_of pools number change (slice_get pools number)

-- ---- cells

-- the name under which a variable is watched: its own, or a compound's stem
abbrev pub watched_name : Derived → List ℕ
watched_name (Simple name) = name
watched_name (Stem stem) = stem
watched_name (Compound stem tail) = stem

-- the number of the cell of a name in a pool, once it was given out
abbrev pub cell_in : Pools → ℕ → List ℕ → Option ℕ
cell_in all number name = look_up (cells_of (slice_get all.pools number)) name

abbrev pub with_numbered_cell : Pools → ℕ → List ℕ → ℕ → Pools
with_numbered_cell all number name cell =
    record all { pools = with_change_at all.pools number (λ pool. record pool { cells = with_entry pool.cells name cell }) }

abbrev pub with_new_cell : Pools → ℕ → List ℕ → Pools
with_new_cell all number name =
    with_numbered_cell (record all { counts = all.counts ++ 0 ∷ [] }) number name (length all.counts)

abbrev pub with_cell_at : Pools → ℕ → List ℕ → Option ℕ → Pools
with_cell_at all number name (Some cell) = all
with_cell_at all number name None = with_new_cell all number name

-- the pools, with a cell of this name in one of them: it gets the next number where there is none yet
abbrev pub with_cell : Pools → ℕ → List ℕ → Pools
with_cell all number name = with_cell_at all number name (cell_in all number name)

-- ---- changes

-- how often a cell was changed
abbrev pub changes_of : Pools → ℕ → ℕ
changes_of all cell = slice_index all.counts cell

abbrev pub touched : List ℕ → Option ℕ → List ℕ
touched counts None = counts
touched counts (Some cell) = slice_set counts cell (slice_index counts cell + 1)

abbrev pub with_rows_changed : Pools → ℕ → Derived → Option Value → Pools
with_rows_changed all number name value =
    record all { pools = with_change_at all.pools number (λ pool. record pool { rows = changed pool.rows name value }) }

-- The pools once a name of one of them has this value, or none: the name's cell is changed once more.
abbrev pub with_value : Pools → ℕ → Derived → Option Value → Pools
with_value all number name value =
    record (with_rows_changed all number name value) { counts = touched all.counts (cell_in all number (watched_name name)) }

-- the cell of a name in a pool was given out, and its count has room for one more change
abbrev pub IsGiven : Pools → ℕ → List ℕ → Type 0
IsGiven all number name = (cell : ℕ) × (Some cell ≡ cell_in all number name) × (changes_of all cell < 2 ^ 63)
