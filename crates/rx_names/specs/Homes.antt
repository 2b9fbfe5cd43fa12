-- Where the names of an activity live, and which values they have there.
use Rattle.std.specs.Prelude.{◌≡◌, ℕ, ◌+◌, List, [], ◌∷◌, map, slice_get, Option, None, Some}
use Rattle.rx_tree.specs.declared.value.Value.{Value}
use Rattle.rx_tree.specs.declared.name.Derived.{Derived}
use Rattle.rx_tree.specs.declared.name.Place.{Place}
use Rattle.rx_tree.specs.declared.name.Place.TheVariants.{Here, Below, Pool}
use Rattle.rx_vars.specs.Names.{Names, found, no_names}
use Rattle.rx_vars.specs.Variables.{Variables, home as place_of}
use Rattle.rx_pools.specs.Pools.{Pools, IsGiven, cell_in, rows_in, watched_name, with_value}
use Rattle.rx_frames.specs.Frames.{Frame}
use Rattle.rx_frames.specs.Activities.{Activity, frames_at, with_change_at, with_value_below}
use Rattle.rx_names.specs.declared.home.Home.{Home}
use Rattle.rx_names.specs.declared.home.Home.TheVariants as lives

-- the variables of frames
abbrev pub variables_of : {Todo : Type 0} → List (Frame Todo) → List Variables
variables_of frames = map (λ frame. frame.variables) frames

-- the variables of the frames of an activity, those of the top frame first
abbrev pub variables_at : {Todo : Type 0} → List (Activity Todo) → ℕ → List Variables
variables_at activities a = variables_of (frames_at activities a)

-- ---- homes

-- a home, seen from one frame further up
abbrev pub beneath : Home → Home
beneath (lives.Frame down) = lives.Frame (down + 1)
beneath (lives.Pool pool) = lives.Pool pool

-- where a name lives, by its place in a frame and by where it lives for the frame's caller
abbrev pub home_by : Place → Home → Home
home_by Here caller = lives.Frame 0
home_by Below caller = beneath caller
home_by (Pool pool) caller = lives.Pool pool

-- Where a name lives, by the variables of the frames, those of the top frame first: in that frame, in the pool in which it
-- exposes the name, or where the name lives for its caller.
abbrev pub home : List Variables → Derived → Home
home [] name = lives.Frame 0
home (variables ∷ callers) name = home_by (place_of variables name) (home callers name)

-- ---- values

abbrev pub rows_of : Option Variables → Names Value
rows_of None = no_names
rows_of (Some variables) = variables.rows

-- the variables with their values at a home
abbrev pub rows_at : List Variables → Pools → Home → Names Value
rows_at frames pools (lives.Frame down) = rows_of (slice_get frames down)
rows_at frames pools (lives.Pool pool) = rows_in pools pool

-- The value of a name: that of its own row where it lives, or else for a compound that of its stem's row there.
abbrev pub value : List Variables → Pools → Derived → Option Value
value frames pools name = found (rows_at frames pools (home frames name)) name

-- ---- changes

-- the activities, once a name of one of them has this value at its home, or none
abbrev pub activities_with : {Todo : Type 0} → List (Activity Todo) → ℕ → Home → Derived → Option Value → List (Activity Todo)
activities_with activities a (lives.Frame down) name value = with_change_at activities a (with_value_below down name value)
activities_with activities a (lives.Pool pool) name value = activities

-- the pools, once a name has this value at its home, or none
abbrev pub pools_with : Pools → Home → Derived → Option Value → Pools
pools_with pools (lives.Frame down) name value = pools
pools_with pools (lives.Pool pool) name value = with_value pools pool name value

-- the cell of a name that lives in a pool
abbrev pub cell_of : Pools → Home → Derived → Option ℕ
cell_of pools (lives.Frame down) name = None
cell_of pools (lives.Pool pool) name = cell_in pools pool (watched_name name)

-- where a name lives in a pool its cell was given out, and its count has room for one more change
abbrev pub IsCellGiven : List Variables → Pools → Derived → Type 0
IsCellGiven frames pools name = (pool : ℕ) → home frames name ≡ lives.Pool pool → IsGiven pools pool (watched_name name)
